-- Adverts round-trip both ways: each field is laid at the place from which it is read, and numbers round-trip at every width.
use Prim.Native.Nat.{ℕ, ◌+◌, ◌^◌, ◌<◌, ◌≤◌}
use mathlib.Core.Path.{◌≡◌, refl, sym, ap, ◌∙◌}
use mathlib.Core.Bool.{true}
use mathlib.Core.List.{List, [], ◌∷◌, ◌++◌, append_assoc}
use native.Mathlib.Omega.{arith}
use lib.Dec.{lit≤}
use lib.ListN.{length, get_or, take, drop, length-append}
use lib.Seq.{take_at, drop_at, drop-drop, take_all, get_or-drop}
use borrow.Author.Tests.{eq-eqb, le-ltb}
use Rattle.laws.specs.Bytes.{Bytes, ascii, part, same, sent}
use Rattle.laws.specs.Numbers.{number, in_bytes}
use Rattle.laws.proofs.Conditions.{and_first, and_second}
use Rattle.laws.proofs.Lists.{part_from, part_length, part_bytes, part_join, same_is}
use Rattle.laws.proofs.Numbers.{length_in_bytes, number_in_bytes, in_bytes_number}
use Rattle.terms.specs.Answers.{number_of}
use Rattle.terms.specs.declared.Answer.{Answer}
use Rattle.sdap.specs.declared.Advert.{Advert}
use Rattle.sdap.specs.Layout.{head_of, addresses_of, tail_of, bytes_of, fields_of}
use Rattle.sdap.specs.Rules.{is_front, is_sized, Sized, verdict, read_answer, read_of, write_answer, Written}
use Rattle.sdap.proofs.Accepted.{Readable, readable, writable}
use Rattle.sdap.proofs.Lengths.{head_length, addresses_length, tail_length}

-- ---- written, then read

-- the fields that an advert's types can hold
pub record Fitting (a : Advert) : Type 0 where
  pub serial_fits : a.serial < 2 ^ 32
  pub power_fits : a.power < 2 ^ 16
  pub connected_fits : a.connected < 2 ^ 32
  pub accepted_four : length a.accepted ≡ 4
  pub accepted_fit : (i : ℕ) → get_or a.accepted i 0 < 2 ^ 32
  pub error_fits : a.error < 2 ^ 16

-- from place n the list goes on with vs: so vs is the part there, and behind it the rest
record Peeled (l vs rest : List ℕ) (n k m : ℕ) : Type 0 where
  here : part n k l ≡ vs
  after : drop m l ≡ rest

peel : {l : List ℕ} (vs rest : List ℕ) (n k m : ℕ) → drop n l ≡ vs ++ rest → length vs ≡ k → n + k ≡ m → Peeled l vs rest n k m
peel {l} vs rest n k m p e h = record {
  here = rw p (take_at vs rest k e);
  after = rw (← h) (sym (drop-drop k n l) ∙ rw p (drop_at vs rest k e));
}

-- the same for a number of k bytes
record PeeledNumber (l : List ℕ) (v : ℕ) (rest : List ℕ) (n k m : ℕ) : Type 0 where
  value : number (part n k l) ≡ v
  after : drop m l ≡ rest

peel_number : {l : List ℕ} (v : ℕ) (rest : List ℕ) (n k m : ℕ) → drop n l ≡ in_bytes k v ++ rest → v < 256 ^ k → n + k ≡ m → PeeledNumber l v rest n k m
peel_number {l} v rest n k m p f h =
    let q = peel {l = l} (in_bytes k v) rest n k m p (length_in_bytes k v) h in
    record { value = ap number q.here ∙ number_in_bytes k v f; after = q.after }

four : (l : List ℕ) → length l ≡ 4 → get_or l 0 0 ∷ get_or l 1 0 ∷ get_or l 2 0 ∷ get_or l 3 0 ∷ [] ≡ l
four [] e = absurd (omega arith)
four (x ∷ []) e = absurd (omega arith)
four (x ∷ y ∷ []) e = absurd (omega arith)
four (x ∷ y ∷ z ∷ []) e = absurd (omega arith)
four (x ∷ y ∷ z ∷ w ∷ []) e = refl
four (x ∷ y ∷ z ∷ w ∷ v ∷ l) e = absurd (omega arith)

regroup : (f p s w l c i j k m e r n t : List ℕ)
    → (((((f ++ p) ++ s) ++ w) ++ l) ++ ((((c ++ i) ++ j) ++ k) ++ m)) ++ (((e ++ r) ++ n) ++ t)
    ≡ f ++ (p ++ (s ++ (w ++ (l ++ (c ++ (i ++ (j ++ (k ++ (m ++ (e ++ (r ++ (n ++ t))))))))))))
regroup f p s w l c i j k m e r n t = simp append_assoc

-- an advert is its fields
made : (l : List ℕ) (a : Advert) → get_or l 3 0 ≡ a.category → part 8 12 l ≡ a.product → number (part 20 4 l) ≡ a.serial → number (part 24 2 l) ≡ a.power
    → part 26 24 l ≡ a.location → number (part 50 4 l) ≡ a.connected
    → number (part 54 4 l) ∷ number (part 58 4 l) ∷ number (part 62 4 l) ∷ number (part 66 4 l) ∷ [] ≡ a.accepted → number (part 70 2 l) ≡ a.error
    → part 72 24 l ≡ a.region → part 96 24 l ≡ a.name → get_or l 120 0 ≡ a.group.0 → get_or l 121 0 ≡ a.unit.0 → fields_of l ≡ a
unfolding fields_of
made l a h0 h1 h2 h3 h4 h5 h6 h7 h8 h9 h10 h11 = rw (h0, h1, h2, h3, h4, h5, h6, h7, h8, h9, h10, h11)

-- the bytes of an advert, its fixed front first
opened : (a : Advert)
    → bytes_of a
    ≡ (68 ∷ 65 ∷ 4 ∷ a.category ∷ 83 ∷ 79 ∷ 78 ∷ 89 ∷ []) ++ (a.product ++ (in_bytes 4 a.serial ++ (in_bytes 2 a.power ++ (a.location ++ (in_bytes 4 a.connected ++ (in_bytes 4 (get_or a.accepted 0 0) ++ (in_bytes 4 (get_or a.accepted 1 0) ++ (in_bytes 4 (get_or a.accepted 2 0) ++ (in_bytes 4 (get_or a.accepted 3 0) ++ (in_bytes 2 a.error ++ (a.region ++ (a.name ++ (a.group.0 ∷ a.unit.0 ∷ [])))))))))))))
unfolding bytes_of
opened a =
    regroup (68 ∷ 65 ∷ 4 ∷ a.category ∷ 83 ∷ 79 ∷ 78 ∷ 89 ∷ []) a.product (in_bytes 4 a.serial) (in_bytes 2 a.power) a.location (in_bytes 4 a.connected) (in_bytes 4 (get_or a.accepted 0 0)) (in_bytes 4 (get_or a.accepted 1 0)) (in_bytes 4 (get_or a.accepted 2 0)) (in_bytes 4 (get_or a.accepted 3 0)) (in_bytes 2 a.error) a.region a.name (a.group.0 ∷ a.unit.0 ∷ [])

module _ (a : Advert) (f : Fitting a) (s : Sized a) where
  fields_back : fields_of (bytes_of a) ≡ a
  fields_back =
      let l = bytes_of a in
      let r12 : List ℕ = a.group.0 ∷ a.unit.0 ∷ [] in
      let r11 : List ℕ = a.name ++ r12 in
      let r10 : List ℕ = a.region ++ r11 in
      let r9 : List ℕ = in_bytes 2 a.error ++ r10 in
      let r8 : List ℕ = in_bytes 4 (get_or a.accepted 3 0) ++ r9 in
      let r7 : List ℕ = in_bytes 4 (get_or a.accepted 2 0) ++ r8 in
      let r6 : List ℕ = in_bytes 4 (get_or a.accepted 1 0) ++ r7 in
      let r5 : List ℕ = in_bytes 4 (get_or a.accepted 0 0) ++ r6 in
      let r4 : List ℕ = in_bytes 4 a.connected ++ r5 in
      let r3 : List ℕ = a.location ++ r4 in
      let r2 : List ℕ = in_bytes 2 a.power ++ r3 in
      let r1 : List ℕ = in_bytes 4 a.serial ++ r2 in
      let p1 = peel {l = l} a.product r1 8 12 20 (ap (drop 8) (opened a)) s.product_ok refl in
      let p2 = peel_number {l = l} a.serial r2 20 4 24 p1.after f.serial_fits refl in
      let p3 = peel_number {l = l} a.power r3 24 2 26 p2.after f.power_fits refl in
      let p4 = peel {l = l} a.location r4 26 24 50 p3.after s.location_ok refl in
      let p5 = peel_number {l = l} a.connected r5 50 4 54 p4.after f.connected_fits refl in
      let i1 = peel_number {l = l} (get_or a.accepted 0 0) r6 54 4 58 p5.after (f.accepted_fit 0) refl in
      let i2 = peel_number {l = l} (get_or a.accepted 1 0) r7 58 4 62 i1.after (f.accepted_fit 1) refl in
      let i3 = peel_number {l = l} (get_or a.accepted 2 0) r8 62 4 66 i2.after (f.accepted_fit 2) refl in
      let i4 = peel_number {l = l} (get_or a.accepted 3 0) r9 66 4 70 i3.after (f.accepted_fit 3) refl in
      let p6 = peel_number {l = l} a.error r10 70 2 72 i4.after f.error_fits refl in
      let p7 = peel {l = l} a.region r11 72 24 96 p6.after s.region_ok refl in
      let p8 = peel {l = l} a.name r12 96 24 120 p7.after s.name_ok refl in
      let ips : number (part 54 4 l) ∷ number (part 58 4 l) ∷ number (part 62 4 l) ∷ number (part 66 4 l) ∷ [] ≡ a.accepted = rw (
        i1.value,
        i2.value,
        i3.value,
        i4.value,
      ) (four a.accepted f.accepted_four) in
      let at : (k : ℕ) → get_or l (120 + k) 0 ≡ get_or r12 k 0 = λ k. sym (get_or-drop 120 l k 0) ∙ ap (λ (x : List ℕ). get_or x k 0) p8.after in
      made l a (ap (λ (x : List ℕ). get_or x 3 0) (opened a)) p1.here p2.value p3.value p4.here p5.value ips p6.value p7.here p8.here (at 0) (at 1)

  bytes_long : length (bytes_of a) ≡ 122
  unfolding bytes_of
  bytes_long =
      let h = head_length a s.product_ok s.location_ok in
      let i = addresses_length a in
      let t = tail_length a s.region_ok s.name_ok in
      length-append (head_of a ++ addresses_of a) (tail_of a)
      ∙ omega (arith, h, i, t, length-append (head_of a) (addresses_of a))

  front_back : is_front (bytes_of a) ≡ true
  unfolding is_front
  front_back = rw (opened a)

  answer_back : read_answer (bytes_of a) ≡ verdict a
  unfolding read_answer
  answer_back = rw (eq-eqb _ _ bytes_long, front_back, fields_back)

-- what the writer accepts reads back as the same fields: the front of the area, whatever stands behind it
pub written_reads_back : (a : Advert) (area area' : List ℕ) (r : Answer) → Fitting a → Written a area r area' → number_of r ≡ 0
    → read_of (take 122 area') ≡ record { answer = r; fields = a }
unfolding read_of
written_reads_back a area area' r f w z =
    let ok = writable (length area) a (ap number_of (sym w.answer) ∙ z) in
    let filled : area' ≡ sent (bytes_of a) area = w.area_after_holds
    ∙ rw (eq-eqb (number_of (write_answer (length area) a)) 0 (ap number_of (sym w.answer) ∙ z)) in
    let front : take 122 area' ≡ bytes_of a = ap (take 122) filled ∙ take_at (bytes_of a) (drop (length (bytes_of a)) area) 122 (bytes_long a f ok.sizes) in
    let answer : read_answer (bytes_of a) ≡ r = answer_back a f ok.sizes ∙ ok.fair ∙ sym w.answer in
    rw (front, answer, eq-eqb (number_of r) 0 z, fields_back a f ok.sizes)

-- ---- read, then written

module _ (l : List ℕ) (b : Bytes l) (ok : Readable l) where
  inside : (n k : ℕ) → n + k ≤ 122 → n + k ≤ length l
  inside n k h = omega (arith, ok.long)

  number_back : (n k : ℕ) → n + k ≤ 122 → in_bytes k (number (part n k l)) ≡ part n k l
  number_back n k h =
      let e = part_length n k l (inside n k h) in
      ap (λ (j : ℕ). in_bytes j (number (part n k l))) (sym e) ∙ in_bytes_number (part n k l) (part_bytes n k l b)

  front_is : 68 ∷ 65 ∷ 4 ∷ get_or l 3 0 ∷ 83 ∷ 79 ∷ 78 ∷ 89 ∷ [] ≡ part 0 8 l
  unfolding is_front
  front_is =
      let first = same_is (part 0 3 l) (68 ∷ 65 ∷ 4 ∷ []) (and_first (same (part 0 3 l) (68 ∷ 65 ∷ 4 ∷ [])) (same (part 4 4 l) (ascii "SONY")) ok.front) in
      let last = same_is (part 4 4 l) (ascii "SONY") (and_second (same (part 0 3 l) (68 ∷ 65 ∷ 4 ∷ [])) (same (part 4 4 l) (ascii "SONY")) ok.front) in
      let middle : part 3 1 l ≡ get_or l 3 0 ∷ [] = part_from 3 4 0 l (inside 3 1 (lit≤ tt)) refl in
      part_join 0 4 4 4 l (part_join 0 3 1 3 l (sym first) (sym middle) refl) (sym last) refl

  bytes_back : bytes_of (fields_of l) ≡ l
  unfolding bytes_of fields_of
  bytes_back =
      let h1 = part_join 0 8 12 8 l front_is refl refl in
      let h2 = part_join 0 20 4 20 l h1 (number_back 20 4 (lit≤ tt)) refl in
      let h3 = part_join 0 24 2 24 l h2 (number_back 24 2 (lit≤ tt)) refl in
      let h4 = part_join 0 26 24 26 l h3 refl refl in
      let i1 = part_join 50 4 4 54 l (number_back 50 4 (lit≤ tt)) (number_back 54 4 (lit≤ tt)) refl in
      let i2 = part_join 50 8 4 58 l i1 (number_back 58 4 (lit≤ tt)) refl in
      let i3 = part_join 50 12 4 62 l i2 (number_back 62 4 (lit≤ tt)) refl in
      let i4 = part_join 50 16 4 66 l i3 (number_back 66 4 (lit≤ tt)) refl in
      let ids : get_or l 120 0 ∷ get_or l 121 0 ∷ [] ≡ part 120 2 l = sym (rw (
        part_from 120 121 1 l (inside 120 1 (lit≤ tt)) refl,
        part_from 121 122 0 l (inside 121 1 (lit≤ tt)) refl,
      )) in
      let t1 = part_join 70 2 24 72 l (number_back 70 2 (lit≤ tt)) refl refl in
      let t2 = part_join 70 26 24 96 l t1 refl refl in
      let t3 = part_join 70 50 2 120 l t2 ids refl in
      part_join 0 70 52 70 l (part_join 0 50 20 50 l h4 i4 refl) t3 refl ∙ take_all 122 l (omega (arith, ok.long))

  sizes_back : is_sized (fields_of l) ≡ true
  unfolding is_sized fields_of
  sizes_back =
      rw (
        part_length 8 12 l (inside 8 12 (lit≤ tt)),
        part_length 26 24 l (inside 26 24 (lit≤ tt)),
        part_length 72 24 l (inside 72 24 (lit≤ tt)),
        part_length 96 24 l (inside 96 24 (lit≤ tt)),
      )

-- what the reader accepts is written back as the same bytes: in any area that has room, with the old rest behind them
pub read_writes_back : (l area area' : List ℕ) (r : Answer) → Bytes l → number_of (read_answer l) ≡ 0 → 122 ≤ length area
    → Written (read_of l).fields area r area' → (r ≡ read_answer l) × (area' ≡ sent l area)
unfolding read_of write_answer
read_writes_back l area area' r b z room w =
    let ok = readable l z in
    let fields : (read_of l).fields ≡ fields_of l = rw (eq-eqb (number_of (read_answer l)) 0 z) in
    let answer : write_answer (length area) (fields_of l) ≡ read_answer l = rw (le-ltb _ _ room, sizes_back l b ok) ok.fair in
    (w.answer ∙ rw (fields, answer), w.area_after_holds ∙ rw (fields, answer, eq-eqb (number_of (read_answer l)) 0 z, bytes_back l b ok))
