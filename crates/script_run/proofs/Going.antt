-- Between two lines of a piece: box, text and store are those of the bytes that were taken, and one line more keeps it so.
use Prim.Native.Nat.{ℕ, ◌+◌, ◌≤◌, ◌<◌}
use mathlib.Core.Path.{◌≡◌, refl, sym, ap, ◌∙◌}
use mathlib.Core.List.{List, ◌++◌}
use native.Mathlib.Omega.{arith}
use native.Mathlib.Nat.{zero-add}
use lib.ListN.{length, take, drop, length-append, length-take, length-drop}
use lib.Seq.{take-add, drop-drop}
use Rattle.laws.proofs.Areas.{over_front}
use Rattle.script.specs.declared.Held.{Held}
use Rattle.script_text.specs.Puts.{Puts}
use Rattle.script_text.proofs.Puts.{puts_none, puts_then, puts_as, puts_whole, puts_length}
use Rattle.script_room.specs.Room.{room}
use Rattle.script_run.specs.declared.Progress.{Progress}
use Rattle.script_run.specs.Pieces.{SoFar, at_call, further, reach, Store, stored, Runs}
use Rattle.script_run.proofs.Moves.{reach_end, reach_full}
use Rattle.script_run.proofs.Further.{further_append, stored_append}

module _ (b : Held) (store₀ : List ℕ) (kept₀ : ℕ) (piece area₀ : List ℕ) where
  -- the script after so many bytes of the piece, and the store
  abbrev pub so_far : ℕ → SoFar
  so_far n = further (at_call b store₀ kept₀) (take n piece)

  abbrev pub store_now : ℕ → Store
  store_now n = stored (record { bytes = store₀; kept = length (take kept₀ store₀) }) (take n piece)

  pub record Going (p : Progress) (store area : List ℕ) : Type 0 where
    pub inside : p.next ≤ length piece
    pub left : reach (length area₀) (at_call b store₀ kept₀) piece ≡ p.next + reach (length area₀) (so_far p.next) (drop p.next piece)
    pub held_is : p.held ≡ (so_far p.next).held
    pub text_is : Puts (so_far p.next).text area₀ 0 area p.len
    pub size_is : p.len ≡ length (so_far p.next).text
    pub fits : p.len ≤ length area
    pub full : p.kept ≤ length store
    pub store_is : record { bytes = store; kept = p.kept } ≡ store_now p.next

  pub going_first : (kept : ℕ) → kept ≡ length (take kept₀ store₀) → Going (record { held = b; kept = kept; next = 0; len = 0 }) store₀ area₀
  unfolding further stored
  going_first kept e = record {
    inside = omega arith;
    left = sym (zero-add (reach (length area₀) (at_call b store₀ kept₀) piece));
    held_is = refl;
    text_is = puts_none area₀ 0;
    size_is = refl;
    fits = omega arith;
    full = let l = length-take kept₀ store₀ in omega (arith, e, l);
    store_is = ap (λ (k : ℕ). record { bytes = store₀; kept = k }) e;
  }

  -- the bytes u were taken, and their text is w
  module _ (p r : Progress) (store area store' area' u w : List ℕ) (g : Going p store area)
      (next : r.next ≡ p.next + length u) (front : take (length u) (drop p.next piece) ≡ u) where
    bytes_on : take r.next piece ≡ take p.next piece ++ u
    bytes_on = ap (λ (n : ℕ). take n piece) next ∙ take-add p.next (length u) piece ∙ ap (λ (v : List ℕ). take p.next piece ++ v) front

    so_far_on : so_far r.next ≡ further (so_far p.next) u
    so_far_on = ap (further (at_call b store₀ kept₀)) bytes_on ∙ further_append (at_call b store₀ kept₀) (take p.next piece) u

    pub going_on : r.next ≤ length piece → r.kept ≤ length store'
        → reach (length area₀) (so_far p.next) (drop p.next piece) ≡ length u + reach (length area₀) (further (so_far p.next) u) (drop (length u) (drop p.next piece))
        → r.held ≡ (further (so_far p.next) u).held
        → (further (so_far p.next) u).text ≡ (so_far p.next).text ++ w
        → p.len + length w ≤ length area → Puts w area p.len area' r.len
        → record { bytes = store'; kept = r.kept } ≡ stored (record { bytes = store; kept = p.kept }) u
        → Going r store' area'
    going_on inside full left box text room put kept =
        let texts : (so_far p.next).text ++ w ≡ (so_far r.next).text = sym (ap (λ (s : SoFar). s.text) so_far_on ∙ text) in
        let len = (puts_whole put room).1 in
        let same = puts_length put in
        let size : length (so_far r.next).text ≡ p.len + length w = sym (ap length texts) ∙ length-append (so_far p.next).text w ∙ (let q = g.size_is in omega arith) in
        let rest : drop (length u) (drop p.next piece) ≡ drop r.next piece = drop-drop (length u) p.next piece ∙ ap (λ (n : ℕ). drop n piece) (sym next) in
        let more : reach (length area₀) (so_far p.next) (drop p.next piece) ≡ length u + reach (length area₀) (so_far r.next) (drop r.next piece) = left ∙ ap (λ (v : List ℕ). length u + reach (length area₀) (further (so_far p.next) u) v) rest ∙ ap (λ (s : SoFar). length u + reach (length area₀) s (drop r.next piece)) (sym so_far_on) in
        record {
          inside = inside;
          left = let q = g.left in omega (arith, q, more, next);
          held_is = box ∙ ap (λ (s : SoFar). s.held) (sym so_far_on);
          text_is = puts_as texts (puts_then g.text_is put);
          size_is = omega (arith, len, size);
          fits = omega (arith, len, room, same);
          full = full;
          store_is = kept ∙ ap (λ (k : Store). stored k u) g.store_is ∙ sym (ap (stored (record { bytes = store₀; kept = length (take kept₀ store₀) })) bytes_on ∙ stored_append (record { bytes = store₀; kept = length (take kept₀ store₀) }) (take p.next piece) u);
        }

  -- nothing more is taken: the call is done
  done : (p : Progress) (store area : List ℕ) → Going p store area → reach (length area₀) (so_far p.next) (drop p.next piece) ≡ 0 → Runs b store₀ kept₀ piece area₀ p store area
  done p store area g z =
      let whole = puts_whole g.text_is (let q = g.size_is in let f = g.fits in let l = puts_length g.text_is in omega (arith, q, f, l)) in
      record {
        next_is = let q = g.left in omega (arith, q, z);
        held_is = g.held_is;
        text_is = record { length_is = g.size_is; area_is = whole.0 ∙ over_front area₀ (so_far p.next).text };
        store_is = g.store_is;
      }

  -- for want of room, or since the piece has ended
  pub going_full : (p : Progress) (store area : List ℕ) → Going p store area → length area < p.len + room → Runs b store₀ kept₀ piece area₀ p store area
  going_full p store area g h =
      let l = puts_length g.text_is in
      let n = g.size_is in
      done p store area g (reach_full (length area₀) (so_far p.next) (drop p.next piece) (omega (arith, h, l, n)))

  pub going_end : (p : Progress) (store area : List ℕ) → Going p store area → length piece ≤ p.next → Runs b store₀ kept₀ piece area₀ p store area
  going_end p store area g h =
      let l = length-drop p.next piece in
      done p store area g (reach_end (length area₀) (so_far p.next) (drop p.next piece) (omega (arith, h, l)))
