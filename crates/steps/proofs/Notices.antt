-- In records in range, sixteen equal bytes of a state are an equal setting: a word is one of two or three, and digits tell their number.
use Prim.Native.Nat.{ℕ, zero, suc, ◌+◌, ◌*◌, ◌-◌, ◌/◌, ◌%◌, ◌^◌, ◌<◌, ◌≤◌}
use mathlib.Core.Path.{◌≡◌, refl, sym, ap, ◌∙◌}
use mathlib.Core.Bool.{true, cond, ◌&&◌}
use mathlib.Core.List.{List, [], ◌∷◌}
use native.Mathlib.Omega.{arith}
use native.Mathlib.Nat.{pow-succ', pow-zero, mod-eq_of_lt}
use lib.Arith.{mod-mul}
use lib.Dec.{eqb, leb, ltb}
use lib.ListN.{get_or, drop}
use borrow.Author.Tests.{leb-true, ltb-true}
use Rattle.laws.specs.Lists.{listed}
use Rattle.laws.proofs.Conditions.{and_first, and_second}
use Rattle.laws.proofs.Lists.{listed_every}
use Rattle.laws.proofs.Numbers.{positive}
use Rattle.decimals.specs.Decimals.{in_digits}
use Rattle.panels.specs.Records.{kinds}
use Rattle.panels.specs.Valid.{ok_k, ok_input}
use Rattle.panels.specs.declared.KRecord.{KRecord}
use Rattle.kjw_sets.specs.declared.State.{State}
use Rattle.kjw_sets.specs.declared.State.TheVariants.{Power, AudioMute, PictureMute, Volume, Input, Scene}
use Rattle.kjw_values.specs.Values.{switch_word, scene_word, input_word, value_of}

-- what of a record a state is
abbrev pub setting_of : State → KRecord → List ℕ
setting_of Power k = k.power ∷ []
setting_of AudioMute k = k.amut ∷ []
setting_of PictureMute k = k.pmut ∷ []
setting_of Volume k = k.volume ∷ []
setting_of Input k = k.kind ∷ k.port ∷ []
setting_of Scene k = k.scene ∷ []

-- ---- words

switch_back : (v : ℕ) → v ≤ 1 → get_or (switch_word v) 15 0 - 0x30 ≡ v
unfolding switch_word
switch_back zero h = refl
switch_back (suc zero) h = refl
switch_back (suc (suc v)) h = absurd (omega arith)

switch_tells : (v v' : ℕ) → v ≤ 1 → v' ≤ 1 → switch_word v ≡ switch_word v' → v ≡ v'
switch_tells v v' h h' e = sym (switch_back v h) ∙ ap (λ (l : List ℕ). get_or l 15 0 - 0x30) e ∙ switch_back v' h'

-- `general` alone begins with g, and `auto24pSync` alone has a 2 behind `auto`
abbrev scene_of : List ℕ → ℕ
scene_of l = cond (eqb (get_or l 0 0) 0x67) 2 (cond (eqb (get_or l 4 0) 0x32) 1 0)

scene_back : (v : ℕ) → v ≤ 2 → scene_of (scene_word v) ≡ v
unfolding scene_word
scene_back zero h = refl
scene_back (suc zero) h = refl
scene_back (suc (suc zero)) h = refl
scene_back (suc (suc (suc v))) h = absurd (omega arith)

scene_tells : (v v' : ℕ) → v ≤ 2 → v' ≤ 2 → scene_word v ≡ scene_word v' → v ≡ v'
scene_tells v v' h h' e = sym (scene_back v h) ∙ ap scene_of e ∙ scene_back v' h'

-- ---- digits

digits_tell : (n v v' : ℕ) → in_digits n v ≡ in_digits n v' → v % 10 ^ n ≡ v' % 10 ^ n
unfolding in_digits
digits_tell zero v v' e = rw pow-zero (omega arith)
digits_tell (suc n) v v' e =
    let rest = digits_tell n v v' (ap (drop 1) e) in
    let first : 0x30 + v / 10 ^ n % 10 ≡ 0x30 + v' / 10 ^ n % 10 = ap (λ (l : List ℕ). get_or l 0 0) e in
    let same : v / 10 ^ n % 10 ≡ v' / 10 ^ n % 10 = omega (arith, first) in
    parts v ∙ ap (λ (x : ℕ). x * 10 ^ n + v % 10 ^ n) same ∙ ap (λ (y : ℕ). v' / 10 ^ n % 10 * 10 ^ n + y) rest ∙ sym (parts v')
  where
    parts : (x : ℕ) → x % 10 ^ suc n ≡ x / 10 ^ n % 10 * 10 ^ n + x % 10 ^ n
    parts x = ap (λ (y : ℕ). x % y) (pow-succ' 10 n) ∙ mod-mul x (omega arith) (positive 10 n (omega arith))

number_tells : (n v v' : ℕ) → v < 10 ^ n → v' < 10 ^ n → in_digits n v ≡ in_digits n v' → v ≡ v'
number_tells n v v' h h' e = sym (mod-eq_of_lt h) ∙ digits_tell n v v' e ∙ mod-eq_of_lt h'

-- ---- a record in range, setting by setting

record InRange (k : KRecord) : Type 0 where
  power_fits : k.power ≤ 1
  amut_fits : k.amut ≤ 1
  pmut_fits : k.pmut ≤ 1
  volume_fits : k.volume ≤ 100
  scene_fits : k.scene ≤ 2
  kind_fits : k.kind < 10
  port_fits : k.port ≤ 9999

in_range_lem : (k : KRecord) → ok_k k ≡ true → InRange k
unfolding ok_k ok_input
in_range_lem k e =
    let p = leb k.power 1 in
    let a = leb k.amut 1 in
    let q = leb k.pmut 1 in
    let v = leb k.volume 100 in
    let s = leb k.scene 2 in
    let c = listed kinds k.kind in
    let i = c && leb 1 k.port && leb k.port 9999 in
    let e₁ = and_first (p && a && q && v && s) i e in
    let e₂ = and_first (p && a && q && v) s e₁ in
    let e₃ = and_first (p && a && q) v e₂ in
    let e₄ = and_first (p && a) q e₃ in
    let e₅ = and_second (p && a && q && v && s) i e in record {
      power_fits = leb-true k.power 1 (and_first p a e₄);
      amut_fits = leb-true k.amut 1 (and_second p a e₄);
      pmut_fits = leb-true k.pmut 1 (and_second (p && a) q e₃);
      volume_fits = leb-true k.volume 100 (and_second (p && a && q) v e₂);
      scene_fits = leb-true k.scene 2 (and_second (p && a && q && v) s e₁);
      kind_fits = ltb-true k.kind 10 (listed_every (λ (x : ℕ). ltb x 10) kinds k.kind refl (and_first c (leb 1 k.port) (and_first (c && leb 1 k.port) (leb k.port 9999) e₅)));
      port_fits = leb-true k.port 9999 (and_second (c && leb 1 k.port) (leb k.port 9999) e₅);
    }

input_tells : (kind kind' port port' : ℕ) → kind < 10 → kind' < 10 → port ≤ 9999 → port' ≤ 9999 → input_word kind port ≡ input_word kind' port' → (kind ≡ kind') × (port ≡ port')
unfolding input_word in_digits
input_tells kind kind' port port' h h' g g' e = (
  number_tells 1 kind kind' h h' (ap (λ (l : List ℕ). get_or l 7 0 ∷ []) e),
  number_tells 4 port port' (omega arith) (omega arith) (ap (drop 12) e),
)

-- "if it changed POWR, INPT, VOLU, AMUT or PMUT, one N frame with the new value follows": a notice compares the sixteen bytes of a state, and these
-- tell its setting (those of SCEN too, which has no notice)
pub notice_tells : (s : State) (k k' : KRecord) → ok_k k ≡ true → ok_k k' ≡ true → value_of s k ≡ value_of s k' → setting_of s k ≡ setting_of s k'
unfolding value_of
notice_tells s k k' o o' = go s (in_range_lem k o) (in_range_lem k' o')
  where
    loud : (v : ℕ) → v ≤ 100 → v < 10 ^ 16
    loud v h = omega arith

    go : (s : State) → InRange k → InRange k' → value_of s k ≡ value_of s k' → setting_of s k ≡ setting_of s k'
    go Power r r' e = ap (λ (v : ℕ). v ∷ []) (switch_tells k.power k'.power r.power_fits r'.power_fits e)
    go AudioMute r r' e = ap (λ (v : ℕ). v ∷ []) (switch_tells k.amut k'.amut r.amut_fits r'.amut_fits e)
    go PictureMute r r' e = ap (λ (v : ℕ). v ∷ []) (switch_tells k.pmut k'.pmut r.pmut_fits r'.pmut_fits e)
    go Volume r r' e = ap (λ (v : ℕ). v ∷ []) (number_tells 16 k.volume k'.volume (loud k.volume r.volume_fits) (loud k'.volume r'.volume_fits) e)
    go Scene r r' e = ap (λ (v : ℕ). v ∷ []) (scene_tells k.scene k'.scene r.scene_fits r'.scene_fits e)
    go Input r r' e =
        let t = input_tells k.kind k'.kind k.port k'.port r.kind_fits r'.kind_fits r.port_fits r'.port_fits e in
        ap (λ (v : ℕ). v ∷ k.port ∷ []) t.0 ∙ ap (λ (v : ℕ). k'.kind ∷ v ∷ []) t.1
