-- `bytes_at` lays the bytes of word k where it is HEX, and otherwise none.
use Prim.Native.Nat.{◌≤◌, ℕ}
use mathlib.Core.List.{List}
use mathlib.Core.Path.{◌∙◌, ◌≡◌, ap, subst, sym}
use native.Mathlib.Omega.{arith}
use lib.ListN.{length}
use borrow.Author.Rules.{rules}
use Rattle.laws.specs.Bytes.{Sent, sent}
use Rattle.script_words.specs.Words.{bytes_in}
use Rattle.script_hex.specs.Hex.{is_hex}
use Rattle.script_words.proofs.Hex.{hex_bytes, hex_fits, no_bytes}
use Rattle.script_words.proofs.bytes_at.Goals as goal

pub returns-then-not-is_hex : goal.returns-then-not-is_hex
returns-then-not-is_hex c =
    let a = c.args in
    let e = no_bytes a.k a.line.now (sym (ap is_hex c.word_at-word.ensures) ∙ sym c.is_hex.ensures ∙ c.if-not-is_hex.true) in
    record { length_is = sym (ap length e); area_is = sym (ap (λ (b : List ℕ). sent b a.area.now) e) }

pub put_pairs-requires : goal.put_pairs-requires
put_pairs-requires c =
    let room : length c.args.area.now ≡ 1024 = search rules in
    let h : length c.word_at-word.result.now ≤ 2048 = hex_fits c.word_at-word.result.now (sym c.is_hex.ensures ∙ c.if-not-is_hex.false) in
    omega arith

pub returns : goal.returns
returns c =
    let a = c.args in
    let word = c.word_at-word.ensures in
    let e = hex_bytes a.k a.line.now (sym (ap is_hex word) ∙ sym c.is_hex.ensures ∙ c.if-not-is_hex.false) in
    subst (λ (b : List ℕ). Sent b c.put_pairs.result a.area.now c.put_pairs.new.area) (ap bytes_in word ∙ sym e) c.put_pairs.ensures
