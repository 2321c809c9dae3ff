-- Nothing else slips in: data is understood exactly when it is, but for spaces and one 00h at its end, STATset with RESET or the words
-- of some setting and value (a shift also without its plus), or STATget with a name. Each test that the reader passes fixes the bytes
-- that it passed.
use Prim.Native.Nat.{ℕ, zero, suc, ◌+◌, ◌-◌, ◌^◌, ◌<◌, ◌≤◌}
use mathlib.Core.Path.{◌≡◌, refl, sym, ap, subst, ◌∙◌}
use mathlib.Core.Bool.{Bool, true, false, cond, ◌&&◌, ◌||◌}
use mathlib.Core.List.{List, [], ◌∷◌, ◌++◌}
use native.Mathlib.Omega.{arith}
use native.Mathlib.Nat.{pow-le-pow_right}
use lib.Dec.{T, eqb, leb, ltb, eqb→eq}
use lib.ListN.{length, get_or, drop}
use lib.IntN.{ℤ, pos, negsuc}
use borrow.Author.Tests.{leb-true, le-leb, lt-ltb, le-ltb, ltb-true, ltb-false, ne_eqb}
use Rattle.std.specs.Prelude.{Option, Some, None}
use Rattle.laws.specs.Bytes.{ascii, same, begins}
use Rattle.laws.proofs.Conditions.{and_first, and_second, false_true}
use Rattle.laws.proofs.Lists.{same_is}
use Rattle.laws.proofs.Table.{below}
use Rattle.laws.proofs.Texts.{begins_front}
use Rattle.decimals.specs.Decimals.{decimal, is_numeral, up_to, numeral}
use Rattle.decimals.proofs.Decimals.{decimal_fits, in_digits_decimal}
use Rattle.decimals.proofs.Numerals.{numeral_digits, numeral_long}
use Rattle.settings.specs.Table.{most_shift, name_count, setting_count, tops}
use Rattle.panels.specs.Valid.{ok_shift}
use Rattle.setting_texts.specs.Names.{name_of, lead_of, words_of, word_of}
use Rattle.setting_words.specs.Names.{named_by, led_by, chosen_by}
use Rattle.setting_words.proofs.Search.{Right, first_right}
use Rattle.setting_words.proofs.Choices.{led_right}
use Rattle.trimming.specs.Trimming.{trimmed}
use Rattle.trimming.proofs.Trimmed.{Ended}
use Rattle.vmc_asks.specs.Asks.{level_of, set_to, shift_by, shift_order, value_order, set_order, read_set, get_order, read_get, read_words, read_data}
use Rattle.vmc_tells.specs.Texts.{value_words, shift_words, set_words, move_words}
use Rattle.vmc_asks.specs.declared.Order.{Order}
use Rattle.vmc_asks.specs.declared.Order.TheVariants.{Set, Shift, Reset, Get}
use Rattle.vmc_asks.proofs.Ended.{read_ended}
use Rattle.vmc.proofs.ReadBack.{Phrase, read_back, set_back, move_back, plain_back_lem, reset_back, get_back}

-- the words behind STATset, and what they order
pub data Spoken : List ℕ → Order → Type 0 where
  sets : (k v : ℕ) → k < setting_count → v ≤ get_or tops k 0 → Spoken (set_words k v) (Set k v)
  moves : (axis : ℕ) (z : ℤ) → axis < 2 → ok_shift z ≡ true → Spoken (move_words (setting_count + axis) z) (Shift axis z)
  plain : (axis n : ℕ) → axis < 2 → n ≤ most_shift → Spoken (lead_of (setting_count + axis) ++ numeral n) (Shift axis (pos n))
  resets : Spoken (ascii "RESET") Reset

-- data that is understood, and what it asks
pub data Asks : List ℕ → Order → Type 0 where
  stat_set : (s : List ℕ) (o : Order) → Spoken s o → Asks (ascii "STATset " ++ s) o
  stat_get : (k : ℕ) → k < name_count → Asks (ascii "STATget " ++ name_of k) (Get k)

phrase : (t : List ℕ) (o : Order) → Asks t o → Phrase t o
phrase _ _ (stat_set _ _ (sets k v h l)) = set_back k v h l
phrase _ _ (stat_set _ _ (moves axis z h e)) = move_back axis z h e
phrase _ _ (stat_set _ _ (plain axis n h l)) = plain_back_lem axis n h l
phrase _ _ (stat_set _ _ resets) = reset_back
phrase _ _ (stat_get k h) = get_back k h

-- such data is understood, with spaces behind it and behind these one 00h or none
pub all : (t d : List ℕ) (o : Order) → Asks t o → Ended t d → read_data d ≡ Some o
all t d o a e = let p = phrase t o a in read_ended t d p.ends_bare_holds e ∙ read_back t o p

-- what is known of the order, where there is one
abbrev Says : (Order → Type 0) → Option Order → Type 0
Says P (Some o) = P o
Says P None = Unit {0}

pick : (P : Order → Type 0) (b : Bool) (x y : Option Order) → (b ≡ true → Says P x) → (b ≡ false → Says P y) → Says P (cond b x y)
pick P true x y f g = f refl
pick P false x y f g = g refl

carry : (P Q : Order → Type 0) → ((o : Order) → P o → Q o) → (x : Option Order) → Says P x → Says Q x
carry P Q f (Some o) p = f o p
carry P Q f None p = tt

-- ---- levels: the words of a level are its numeral

-- four digits or more write 1000 or more
four_digits : (b : ℕ) (l : List ℕ) → is_numeral (b ∷ l) ≡ true → 3 ≤ length l → 1000 ≤ decimal (b ∷ l)
four_digits b l e h =
    let p : 10 ^ 3 ≤ 10 ^ length l = pow-le-pow_right {n = 10} (omega arith) h in
    let k = numeral_long b l e (omega arith) in
    omega (arith, p, k)

numeral_is : (t : List ℕ) → is_numeral t ≡ true → decimal t ≤ 100 → t ≡ numeral (decimal t)
unfolding is_numeral numeral
numeral_is [] e h = absurd (false_true e)
numeral_is (b ∷ []) e h =
    let d = numeral_digits (b ∷ []) e in
    let f : decimal (b ∷ []) < 10 ^ 1 = decimal_fits (b ∷ []) d in
    sym (in_digits_decimal (b ∷ []) d) ∙ sym (rw (lt-ltb (decimal (b ∷ [])) 10 f))
numeral_is (b ∷ c ∷ []) e h =
    let d = numeral_digits (b ∷ c ∷ []) e in
    let f : decimal (b ∷ c ∷ []) < 10 ^ 2 = decimal_fits (b ∷ c ∷ []) d in
    let g : 10 ^ 1 ≤ decimal (b ∷ c ∷ []) = numeral_long b (c ∷ []) e (omega arith) in
    sym (in_digits_decimal (b ∷ c ∷ []) d) ∙ sym (rw (le-ltb (decimal (b ∷ c ∷ [])) 10 g, lt-ltb (decimal (b ∷ c ∷ [])) 100 f))
numeral_is (b ∷ c ∷ a ∷ []) e h =
    let d = numeral_digits (b ∷ c ∷ a ∷ []) e in
    let g : 10 ^ 2 ≤ decimal (b ∷ c ∷ a ∷ []) = numeral_long b (c ∷ a ∷ []) e (omega arith) in
    sym (in_digits_decimal (b ∷ c ∷ a ∷ []) d) ∙ sym (rw (le-ltb (decimal (b ∷ c ∷ a ∷ [])) 10 (omega arith), le-ltb (decimal (b ∷ c ∷ a ∷ [])) 100 g))
numeral_is (b ∷ c ∷ a ∷ x ∷ l) e h = let k = four_digits b (c ∷ a ∷ x ∷ l) e (omega arith) in absurd (omega arith)

pub record Level (t : List ℕ) (v : ℕ) : Type 0 where
  pub spelt : t ≡ numeral v
  pub most : v ≤ 100

abbrev Reads : List ℕ → Option ℕ → Type 0
Reads t (Some v) = Level t v
Reads t None = Unit {0}

level_says : (t : List ℕ) → Reads t (level_of t)
unfolding up_to
level_says t = go (is_numeral t && leb (decimal t) 100) refl
  where
    go : (b : Bool) → (is_numeral t && leb (decimal t) 100) ≡ b → Reads t (cond b (Some (decimal t)) None)
    go true e =
        let h = leb-true (decimal t) 100 (and_second (is_numeral t) (leb (decimal t) 100) e) in
        record { spelt = numeral_is t (and_first (is_numeral t) (leb (decimal t) 100) e) h; most = h }
    go false e = tt

hundred : ℕ → Bool
hundred k = eqb (get_or tops k 0) 100

level_bound : (k : ℕ) → k < 3 → get_or tops k 0 ≡ 100
unfolding hundred
level_bound k h = eqb→eq _ _ (below 3 hundred tt k h)

level_set : (k : ℕ) (t : List ℕ) → k < 3 → (x : Option ℕ) → Reads t x → Says (Spoken (lead_of k ++ t)) (set_to k x)
unfolding set_words value_words
level_set k t h (Some v) r =
    let l = r.most in
    let b = level_bound k h in
    let e : set_words k v ≡ lead_of k ++ t = ap (λ (w : List ℕ). lead_of k ++ w) (rw (lt-ltb k 3 h) (sym r.spelt)) in
    subst (λ (s : List ℕ). Spoken s (Set k v)) e (sets k v (omega arith) (omega (arith, l, b)))
level_set k t h None r = tt

-- ---- choices: the word that was found

bounded : ℕ → Bool
bounded k = ltb k 3 || eqb (get_or tops k 0 + 1) (length (words_of k))

word_bound : (k : ℕ) → k < setting_count → 3 ≤ k → get_or tops k 0 + 1 ≡ length (words_of k)
unfolding bounded
word_bound k h l = eqb→eq _ _ (subst (λ (b : Bool). T (b || eqb (get_or tops k 0 + 1) (length (words_of k)))) (le-ltb k 3 l) (below setting_count bounded tt k h))

choice_set : (k : ℕ) (t : List ℕ) → k < setting_count → 3 ≤ k → (x : Option ℕ) → Right (λ (v : ℕ). same (word_of k v) t) (length (words_of k)) x → Says (Spoken (lead_of k ++ t)) (set_to k x)
unfolding set_words value_words
choice_set k t h l (Some v) r =
    let s = r.small in
    let b = word_bound k h l in
    let e : set_words k v ≡ lead_of k ++ t = ap (λ (w : List ℕ). lead_of k ++ w) (rw (le-ltb k 3 l) (same_is (word_of k v) t r.passes)) in
    subst (λ (s : List ℕ). Spoken s (Set k v)) e (sets k v h (omega (arith, s, b)))
choice_set k t h l None r = tt

-- ---- shifts: a sign and its size, or a size alone

plus : (axis : ℕ) (t u : List ℕ) → axis < 2 → t ≡ ascii "+" ++ u → (x : Option ℕ) → Reads u x → Says (Spoken (lead_of (setting_count + axis) ++ t)) (shift_by axis false 1 x)
unfolding move_words shift_words ok_shift
plus axis t u h f (Some n) r = pick (Spoken (lead_of (setting_count + axis) ++ t)) (leb 1 n && leb n most_shift) (Some (Shift axis (pos n))) None go (λ e. tt)
  where
    go : (leb 1 n && leb n most_shift) ≡ true → Spoken (lead_of (setting_count + axis) ++ t) (Shift axis (pos n))
    go e =
        let l = leb-true 1 n (and_first (leb 1 n) (leb n most_shift) e) in
        let w : shift_words (pos n) ≡ t = rw (ne_eqb n 0 (λ z. omega arith)) (sym (f ∙ ap (λ (y : List ℕ). ascii "+" ++ y) r.spelt)) in
        subst (λ (y : List ℕ). Spoken (lead_of (setting_count + axis) ++ y) (Shift axis (pos n))) w (moves axis (pos n) h (and_second (leb 1 n) (leb n most_shift) e))
plus axis t u h f None r = tt

minus : (axis : ℕ) (t u : List ℕ) → axis < 2 → t ≡ ascii "-" ++ u → (x : Option ℕ) → Reads u x → Says (Spoken (lead_of (setting_count + axis) ++ t)) (shift_by axis true 1 x)
unfolding move_words shift_words ok_shift
minus axis t u h f (Some zero) r = tt
minus axis t u h f (Some (suc n)) r = pick (Spoken (lead_of (setting_count + axis) ++ t)) (leb 1 (suc n) && leb (suc n) most_shift) (Some (Shift axis (negsuc n))) None go (λ e. tt)
  where
    go : (leb 1 (suc n) && leb (suc n) most_shift) ≡ true → Spoken (lead_of (setting_count + axis) ++ t) (Shift axis (negsuc n))
    go e =
        let l = leb-true (suc n) 30 (and_second (leb 1 (suc n)) (leb (suc n) most_shift) e) in
        let w : shift_words (negsuc n) ≡ t = rw (ne_eqb (n + 1) 0 (λ z. omega arith)) (ap (λ (m : ℕ). ascii "-" ++ numeral m) (let q : n + 1 ≡ suc n = omega arith in q)) ∙ sym (f ∙ ap (λ (y : List ℕ). ascii "-" ++ y) r.spelt) in
        subst (λ (y : List ℕ). Spoken (lead_of (setting_count + axis) ++ y) (Shift axis (negsuc n))) w (moves axis (negsuc n) h (rw (le-leb n 29 (omega arith))))
minus axis t u h f None r = tt

alone : (axis : ℕ) (t : List ℕ) → axis < 2 → (x : Option ℕ) → Reads t x → Says (Spoken (lead_of (setting_count + axis) ++ t)) (shift_by axis false 0 x)
alone axis t h (Some n) r = pick (Spoken (lead_of (setting_count + axis) ++ t)) (leb 0 n && leb n most_shift) (Some (Shift axis (pos n))) None go (λ e. tt)
  where
    go : (leb 0 n && leb n most_shift) ≡ true → Spoken (lead_of (setting_count + axis) ++ t) (Shift axis (pos n))
    go e = subst (λ (y : List ℕ). Spoken (lead_of (setting_count + axis) ++ y) (Shift axis (pos n))) (sym r.spelt) (plain axis n h (leb-true n 30 (and_second (leb 0 n) (leb n most_shift) e)))
alone axis t h None r = tt

shift_order_lem : (axis : ℕ) (t : List ℕ) → axis < 2 → Says (Spoken (lead_of (setting_count + axis) ++ t)) (shift_order axis t)
unfolding shift_order
shift_order_lem axis t h =
    pick (Spoken (lead_of (setting_count + axis) ++ t)) (begins (ascii "+") t) _ _ (λ e. plus axis t (drop 1 t) h (begins_front (ascii "+") t e) (level_of (drop 1 t)) (level_says (drop 1 t)))
    (λ _. pick (Spoken (lead_of (setting_count + axis) ++ t)) (begins (ascii "-") t) _ _ (λ e. minus axis t (drop 1 t) h (begins_front (ascii "-") t e) (level_of (drop 1 t)) (level_says (drop 1 t)))
    (λ _. alone axis t h (level_of t) (level_says t)))

-- ---- the whole

value_order_lem : (k : ℕ) (t : List ℕ) → k < name_count → Says (Spoken (lead_of k ++ t)) (value_order k t)
unfolding value_order chosen_by
value_order_lem k t h =
    pick (Spoken (lead_of k ++ t)) (ltb k 3) _ _ (λ e. level_set k t (ltb-true k 3 e) (level_of t) (level_says t))
    (λ e. pick (Spoken (lead_of k ++ t)) (ltb k setting_count) _ _ (λ f. choice_set k t (ltb-true k setting_count f) (ltb-false k 3 e) (chosen_by k t) (first_right (length (words_of k)) (λ (v : ℕ). same (word_of k v) t)))
    (λ f.
    let l = ltb-false k setting_count f in
    let q : setting_count + (k - setting_count) ≡ k = omega arith in
    subst (λ (j : ℕ). Says (Spoken (lead_of j ++ t)) (shift_order (k - setting_count) t)) q (shift_order_lem (k - setting_count) t (omega arith))))

set_order_lem : (s : List ℕ) (x : Option ℕ) → Right (λ (k : ℕ). begins (lead_of k) s) name_count x → Says (Spoken s) (set_order x s)
set_order_lem s (Some k) r =
    subst (λ (w : List ℕ). Says (Spoken w) (value_order k (drop (length (lead_of k)) s))) (sym (begins_front (lead_of k) s r.passes)) (value_order_lem k (drop (length (lead_of k)) s) r.small)
set_order_lem s None r = tt

read_set_lem : (s : List ℕ) → Says (Spoken s) (read_set s)
unfolding read_set
read_set_lem s =
    pick (Spoken s) (same s (ascii "RESET")) _ _ (λ e. subst (λ (w : List ℕ). Spoken w Reset) (sym (same_is s (ascii "RESET") e)) resets)
    (λ _. set_order_lem s (led_by s) (led_right s))

get_order_lem : (s : List ℕ) (x : Option ℕ) → Right (λ (k : ℕ). same (name_of k) s) name_count x → Says (Asks (ascii "STATget " ++ s)) (get_order x)
get_order_lem s (Some k) r = subst (λ (w : List ℕ). Asks (ascii "STATget " ++ w) (Get k)) (same_is (name_of k) s r.passes) (stat_get k r.small)
get_order_lem s None r = tt

read_words_lem : (d : List ℕ) → Says (Asks d) (read_words d)
unfolding read_words read_get named_by
read_words_lem d =
    pick (Asks d) (begins (ascii "STATset ") d) _ _ (λ e. subst (λ (w : List ℕ). Says (Asks w) (read_set (drop 8 d))) (sym (begins_front (ascii "STATset ") d e)) (carry (Spoken (drop 8 d)) (Asks (ascii "STATset " ++ drop 8 d)) (λ o p. stat_set (drop 8 d) o p) (read_set (drop 8 d)) (read_set_lem (drop 8 d))))
    (λ _. pick (Asks d) (begins (ascii "STATget ") d) _ _ (λ e. subst (λ (w : List ℕ). Says (Asks w) (read_get (drop 8 d))) (sym (begins_front (ascii "STATget ") d e)) (get_order_lem (drop 8 d) (named_by (drop 8 d)) (first_right name_count (λ (k : ℕ). same (name_of k) (drop 8 d)))))
    (λ _. tt))

-- nothing else is understood, but for such an end
pub only : (d : List ℕ) (o : Order) → read_data d ≡ Some o → Asks (trimmed d) o
unfolding read_data
only d o e = subst (Says (Asks (trimmed d))) e (read_words_lem (trimmed d))
