-- One line more: what the piece has of it is put into the store, and where it ended the store's front is answered as the line would be.
use Prim.Native.Nat.{ℕ, suc, ◌+◌, ◌≤◌, ◌<◌}
use mathlib.Core.Path.{◌≡◌, refl, sym, ap, subst, ◌∙◌}
use mathlib.Core.Bool.{Bool, true, false, cond}
use mathlib.Core.List.{List, [], ◌∷◌, ◌++◌, append-nil, append_assoc}
use native.Mathlib.Omega.{arith}
use native.Mathlib.Numerals.{add-one}
use lib.ListN.{length, get_or, take, drop, length-append, length-drop, take-append-drop}
use lib.Seq.{split_at, take_at}
use lib.Dec.{ltb}
use borrow.Author.Tests.{ltb-true, ltb-false}
use Rattle.script.specs.declared.Held.{Held}
use Rattle.script_words.specs.Words.{line_of}
use Rattle.script_words.proofs.Words.{before_fits, before_take, before_stop}
use Rattle.script_text.specs.Puts.{Puts}
use Rattle.script_text.proofs.Puts.{puts_one, puts_end, puts_length}
use Rattle.script_pieces.specs.Parts.{end_of, is_ended, next_of}
use Rattle.script_pieces.proofs.Parts.{next_here, next_behind}
use Rattle.script.specs.Answers.{LineEffect}
use Rattle.script.specs.Answers.{answered}
use Rattle.script_room.specs.Room.{room}
use Rattle.script_room.proofs.Pieces.{text_fits}
use Rattle.script_run.specs.declared.Progress.{Progress}
use Rattle.script_run.specs.Lines.{part_done, RunsLine}
use Rattle.script_run.specs.Pieces.{SoFar, further, reach, Store, stored}
use Rattle.script_run.proofs.Kept.{kept_answered}
use Rattle.script_run.proofs.Further.{Holds, holds_first, holds_further}
use Rattle.script_run.proofs.Lines.{line_is, goes_on, line_further, line_stored, line_reach, ended, end_further, end_stored, end_reach}
use Rattle.script_run.proofs.Going.{so_far, store_now, Going, going_on}

-- a line that ended: 0Ah stands behind it
end_here : (s : List ℕ) → length (line_of s) < length s → s ≡ (line_of s ++ (0x0a ∷ [])) ++ drop (suc (length (line_of s))) s
end_here s h =
    let n = length (line_of s) in
    split_at s n 0 h
    ∙ ap (λ (l : List ℕ). l ++ get_or s n 0 ∷ drop (suc n) s) (before_take 0x0a s)
    ∙ ap (λ (x : ℕ). line_of s ++ x ∷ drop (suc n) s) (before_stop 0x0a s h)
    ∙ sym (append_assoc (line_of s) (0x0a ∷ []) (drop (suc n) s))

-- the next line starts further on
pub line_moves : {piece store area store' area' : List ℕ} {p r : Progress} → RunsLine p piece store area r store' area' → p.next < length piece → p.next < r.next
unfolding next_of is_ended
line_moves {piece} {p = p} {r = r} q some = go (ltb (end_of p.next piece) (length piece)) refl (q.next_is ∙ q.part_is.next_is)
  where
    go : (c : Bool) → ltb (end_of p.next piece) (length piece) ≡ c → r.next ≡ cond c (end_of p.next piece + 1) (end_of p.next piece) → p.next < r.next
    go true e n = omega (arith, n)
    go false e n = let h = ltb-false (end_of p.next piece) (length piece) e in omega (arith, n, h, some)

module _ (b : Held) (store₀ : List ℕ) (kept₀ : ℕ) (piece area₀ : List ℕ) (size : length store₀ ≡ 4097)
    (p r : Progress) (store area store' area' : List ℕ) (g : Going b store₀ kept₀ piece area₀ p store area)
    (some : p.next < length piece) (enough : p.len + room ≤ length area) where
  same_size : length area ≡ length area₀
  same_size = puts_length g.text_is

  abbrev so : SoFar
  so = so_far b store₀ kept₀ piece area₀ p.next

  abbrev rest : List ℕ
  rest = drop p.next piece

  abbrev line : List ℕ
  line = line_of rest

  abbrev held : Store
  held = record { bytes = store; kept = p.kept }

  -- the bytes of the line are in the store
  line_kept : {kept : ℕ} → Puts line store p.kept store' kept → record { bytes = store'; kept = kept } ≡ stored held line
  line_kept {kept} put =
      let (d, n) = puts_one put (line_stored held line (line_is rest)) in
      ap (λ (x : List ℕ). record { bytes = x; kept = kept }) d ∙ ap (λ (k : ℕ). record { bytes = (stored held line).bytes; kept = k }) n

  kept_inside : {kept : ℕ} → Puts line store p.kept store' kept → kept ≤ length store'
  kept_inside put = let e = puts_end put g.full in let l = puts_length put in omega (arith, e, l)

  -- the store's front is answered as the whole line
  front_answered : {kept : ℕ} → Puts line store p.kept store' kept → answered p.held (take kept store') ≡ answered so.held (so.begun ++ line)
  front_answered {kept} put =
      let first : Holds (store_now b store₀ kept₀ piece area₀ p.next) so = holds_further _ _ (take p.next piece) (holds_first b store₀ kept₀ size) in
      let then = holds_further held so line (subst (λ (k : Store). Holds k so) (sym g.store_is) first) in
      let now : Holds (record { bytes = store'; kept = kept }) (further so line) = subst (λ (k : Store). Holds k (further so line)) (sym (line_kept put)) then in
      ap (answered p.held) (now.front ∙ ap (λ (s : SoFar). take 4097 s.begun) (line_further so line (line_is rest)))
      ∙ kept_answered p.held (so.begun ++ line)
      ∙ ap (λ (c : Held). answered c (so.begun ++ line)) g.held_is

  -- the piece ended before the line
  begun_on : r.next ≡ p.next + length line → r.held ≡ p.held → Puts [] area p.len area' r.len → Puts line store p.kept store' r.kept
      → Going b store₀ kept₀ piece area₀ r store' area'
  begun_on next box text put =
      let f = before_fits 0x0a rest in
      let d = length-drop p.next piece in
      let e = g.size_is in
      let front = before_take 0x0a rest in
      let on = line_further so line (line_is rest) in
      let tail = drop (length line) rest in
      let all : rest ≡ line ++ tail = sym (take-append-drop (length line) rest) ∙ ap (λ (l : List ℕ). l ++ tail) front in
      going_on b store₀ kept₀ piece area₀ p r store area store' area' line [] g next front
      (omega (arith, f, d, next, some))
      (kept_inside put)
      (ap (reach (length area₀) so) all
      ∙ line_reach (length area₀) so line tail (line_is rest) (omega (arith, e, enough, same_size))
      ∙ ap (λ (s : SoFar). length line + reach (length area₀) s tail) (sym on))
      (box ∙ g.held_is ∙ ap (λ (s : SoFar). s.held) (sym on))
      (ap (λ (s : SoFar). s.text) on ∙ sym (append-nil so.text))
      (omega (arith, enough))
      text
      (line_kept put)

  -- the line ended in the piece
  ended_on : length line < length rest → r.next ≡ p.next + length line + 1 → {kept : ℕ} → Puts line store p.kept store' kept
      → r.held ≡ (answered p.held (take kept store')).held → Puts (answered p.held (take kept store')).text area p.len area' r.len → r.kept ≡ 0
      → Going b store₀ kept₀ piece area₀ r store' area'
  ended_on short next {kept} put box text none =
      let d = length-drop p.next piece in
      let e = g.size_is in
      let u = line ++ (0x0a ∷ []) in
      let tail = drop (suc (length line)) rest in
      let all : rest ≡ u ++ tail = end_here rest short in
      let more : length u ≡ length line + 1 = length-append line (0x0a ∷ []) in
      let behind : drop (length u) rest ≡ tail = ap (λ (n : ℕ). drop n rest) (more ∙ add-one (length line)) in
      let on = end_further so line (line_is rest) in
      let same = front_answered put in
      let w = (answered p.held (take kept store')).text in
      let fit = text_fits p.held (take kept store') in
      let reached = end_reach (length area₀) so line tail (line_is rest) (omega (arith, e, enough, same_size)) in
      let left : reach (length area₀) (ended (goes_on so line)) tail ≡ reach (length area₀) (further so u) (drop (length u) rest) =
      ap (λ (s : SoFar). reach (length area₀) s tail) (sym on) ∙ ap (reach (length area₀) (further so u)) (sym behind) in
      going_on b store₀ kept₀ piece area₀ p r store area store' area' u w g (omega (arith, next, more))
      (ap (take (length u)) all ∙ take_at u tail (length u) refl)
      (omega (arith, short, d, next, some))
      (omega (arith, none))
      (ap (reach (length area₀) so) (all ∙ append_assoc line (0x0a ∷ []) tail) ∙ omega (arith, reached, left, more))
      (box ∙ ap (λ (f : LineEffect). f.held) same ∙ ap (λ (s : SoFar). s.held) (sym on))
      (ap (λ (s : SoFar). s.text) on ∙ ap (λ (f : LineEffect). so.text ++ f.text) (sym same))
      (omega (arith, enough, fit))
      text
      (ap (λ (k : ℕ). record { bytes = store'; kept = k }) none ∙ sym (end_stored held line (line_is rest) put))

  -- either way
  pub line_on : RunsLine p piece store area r store' area' → Going b store₀ kept₀ piece area₀ r store' area'
  unfolding part_done is_ended
  line_on q = go q.part.ended refl q.held_is q.text_is q.kept_is
    where
      go : (c : Bool) → q.part.ended ≡ c
          → r.held ≡ (cond c (answered p.held (take q.part.kept store')) (record { held = p.held; text = [] })).held
          → Puts (cond c (answered p.held (take q.part.kept store')) (record { held = p.held; text = [] })).text area p.len area' r.len
          → r.kept ≡ cond c 0 q.part.kept
          → Going b store₀ kept₀ piece area₀ r store' area'
      go true e box text kept =
          let h = ltb-true (end_of p.next piece) (length piece) (sym q.part_is.ended_is ∙ e) in
          let n = (next_behind piece p.next h).0 in
          let d = length-drop p.next piece in
          ended_on (omega (arith, h, d, some)) (q.next_is ∙ q.part_is.next_is ∙ n) q.part_is.kept_is box text kept
      go false e box text kept =
          let h = ltb-false (end_of p.next piece) (length piece) (sym q.part_is.ended_is ∙ e) in
          let n = q.next_is ∙ q.part_is.next_is ∙ (next_here piece p.next h).0 in
          begun_on n box text (subst (Puts line store p.kept store') (sym kept) q.part_is.kept_is)
