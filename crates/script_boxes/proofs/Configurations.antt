-- The configuration of a line, panel by panel: three words each.
use Prim.Native.Nat.{◌*◌, ◌+◌, ◌-◌, ◌<◌, ◌≤◌, suc, zero, ℕ}
use mathlib.Core.List.{List, []}
use mathlib.Core.Path.{◌∙◌, ◌≡◌, ap, refl, sym}
use native.Mathlib.Omega.{arith}
use lib.ListN.{drop, get_or, length}
use lib.Seq.{get_or-drop}
use borrow.Author.Tests.{le-leb, lt-leb}
use Rattle.script_boxes.specs.Boxes.{configuration, configuration_of, panels_in}
use Rattle.script_words.specs.Words.{number_at, word_at}

pub configuration_length : (n k : ℕ) (line : List ℕ) → length (configuration n k line) ≡ n * 3
unfolding configuration
configuration_length zero k line = refl
configuration_length (suc n) k line = let h = configuration_length n (k + 3) line in omega arith

-- the panels from i on
panels_from : (n k i : ℕ) (line : List ℕ) → i < n → drop (i * 3) (configuration n k line) ≡ configuration (suc (n - suc i)) (k + i * 3) line
unfolding configuration
panels_from zero k i line h = absurd (omega arith)
panels_from (suc n) k zero line h =
    let e : k ≡ k + 0 * 3 = omega arith in
    let m : suc n ≡ suc (suc n - 1) = omega arith in
    let none : ◌≡◌ {A = ℕ} (0 * 3) 0 = omega arith in
    ap (λ (j : ℕ). drop j (configuration (suc n) k line)) none ∙ ap (λ (j : ℕ). configuration (suc n) j line) e ∙ ap (λ (j : ℕ). configuration j (k + 0 * 3) line) m
panels_from (suc n) k (suc i) line h =
    let skip : suc i * 3 ≡ suc (suc (suc (i * 3))) = omega arith in
    let e : k + 3 + i * 3 ≡ k + suc i * 3 = omega arith in
    let m : n - suc i ≡ suc n - suc (suc i) = omega arith in
    ap (λ (j : ℕ). drop j (configuration (suc n) k line)) skip
    ∙ panels_from n (k + 3) i line (omega arith)
    ∙ ap (λ (j : ℕ). configuration (suc (n - suc i)) j line) e
    ∙ ap (λ (j : ℕ). configuration (suc j) (k + suc i * 3) line) m

byte_of : (n i j : ℕ) (line : List ℕ) → i < n → get_or (configuration n 1 line) (i * 3 + j) 0 ≡ get_or (configuration (suc (n - suc i)) (1 + i * 3) line) j 0
byte_of n i j line h = sym (get_or-drop (i * 3) (configuration n 1 line) j 0) ∙ ap (λ (l : List ℕ). get_or l j 0) (panels_from n 1 i line h)

pub family_of_lem : (n i : ℕ) (line : List ℕ) → i < n → get_or (configuration n 1 line) (i * 3) 0 ≡ get_or (word_at (i * 3 + 1) line) 0 0
unfolding configuration
family_of_lem n i line h =
    let e : i * 3 ≡ i * 3 + 0 = omega arith in
    let f : 1 + i * 3 ≡ i * 3 + 1 = omega arith in
    ap (λ (j : ℕ). get_or (configuration n 1 line) j 0) e ∙ byte_of n i 0 line h ∙ ap (λ (j : ℕ). get_or (word_at j line) 0 0) f

pub group_of : (n i : ℕ) (line : List ℕ) → i < n → get_or (configuration n 1 line) (i * 3 + 1) 0 ≡ number_at 255 (i * 3 + 2) line
unfolding configuration
group_of n i line h =
    let f : 1 + i * 3 + 1 ≡ i * 3 + 2 = omega arith in
    byte_of n i 1 line h ∙ ap (λ (j : ℕ). number_at 255 j line) f

pub unit_of_lem : (n i : ℕ) (line : List ℕ) → i < n → get_or (configuration n 1 line) (i * 3 + 2) 0 ≡ number_at 255 (i * 3 + 3) line
unfolding configuration
unit_of_lem n i line h =
    let f : 1 + i * 3 + 2 ≡ i * 3 + 3 = omega arith in
    byte_of n i 2 line h ∙ ap (λ (j : ℕ). number_at 255 j line) f

-- up to sixteen panels may be written
pub few_panels : (line : List ℕ) → panels_in line ≤ 16 → configuration_of line ≡ configuration (panels_in line) 1 line
unfolding configuration_of
few_panels line h = rw (le-leb (panels_in line) 16 h)

pub many_panels : (line : List ℕ) → 16 < panels_in line → configuration_of line ≡ []
unfolding configuration_of
many_panels line h = rw (lt-leb (panels_in line) 16 h)
