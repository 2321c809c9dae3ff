-- Each promise to the C host allows one outcome: its equations have the same right sides.
use mathlib.Core.Path.{◌≡◌, refl, sym, ap, ◌∙◌}
use mathlib.Core.Bool.{Bool}
use mathlib.Core.List.{List}
use Prim.Native.Nat.{ℕ}
use Rattle.sums.specs.Sums.{sums_to_zero}
use Rattle.terms.specs.Answers.{number_of}
use Rattle.terms.specs.declared.Answer.TheVariants.{Done}
use Rattle.sdap.specs.Rules.{read_answer}
use Rattle.sdap.specs.declared.Advert.{Advert}
use Rattle.configure.specs.Configure.{configured}
use Rattle.panels.specs.declared.Panel.{Panel}
use Rattle.panels.specs.declared.DisplayBox.{DisplayBox}
use Rattle.receiver.specs.declared.Receiver.{Receiver}
use Rattle.receiver.specs.declared.Received.{Received}
use Rattle.receiver.specs.Calls.{Given, Receives}
use Rattle.receiver.proofs.Determined.{take_piece_one}
use Rattle.receiver.proofs.Stream.{counted_one}
use Rattle.reader.specs.declared.Listing.{Listing}
use Rattle.reader.specs.Plain.{plain}
use Rattle.host_box.specs.Called.{Called, panel_behind}
use Rattle.host.specs.declared.Outcome.{Outcome}
use Rattle.host.specs.declared.Handed.{Handed}
use Rattle.host.specs.Calls.{WrittenForC, outcome_for_c, received_of}

pub box_checksum_ok_one : (area : List ℕ) (r r' : Bool) → r ≡ sums_to_zero area → r' ≡ sums_to_zero area → r ≡ r'
box_checksum_ok_one area r r' p q = p ∙ sym q

pub box_advert_read_one : (bytes : List ℕ) (r r' : ℕ) → r ≡ number_of (read_answer bytes) → r' ≡ number_of (read_answer bytes) → r ≡ r'
box_advert_read_one bytes r r' p q = p ∙ sym q

pub box_advert_write_one : (a : Advert) (area : List ℕ) (r r' : ℕ) (x x' : List ℕ) → WrittenForC a area r x → WrittenForC a area r' x' → (r ≡ r') × (x ≡ x')
box_advert_write_one a area r r' x x' p q = (p.answer ∙ sym q.answer, p.area_after_holds ∙ sym q.area_after_holds)

pub box_configure_one : (c : List ℕ) (b b' : DisplayBox) (r r' : ℕ) → (b ≡ (configured c).made) × (r ≡ number_of (configured c).answer) → (b' ≡ (configured c).made) × (r' ≡ number_of (configured c).answer) → (b ≡ b') × (r ≡ r')
box_configure_one c b b' r r' p q = (p.0 ∙ sym q.0, p.1 ∙ sym q.1)

pub box_take_one : (c : Called) (b b' : DisplayBox) (r r' : Outcome) (x x' : List ℕ) → (b ≡ c.box) × ((r ≡ outcome_for_c c) × (x ≡ c.area)) → (b' ≡ c.box) × ((r' ≡ outcome_for_c c) × (x' ≡ c.area)) → (b ≡ b') × ((r ≡ r') × (x ≡ x'))
box_take_one c b b' r r' x x' p q = (p.0 ∙ sym q.0, (p.1.0 ∙ sym q.1.0, p.1.1 ∙ sym q.1.1))

pub box_panel_at_one : (b : DisplayBox) (link : ℕ) (p p' : Panel) → p ≡ panel_behind b link → p' ≡ panel_behind b link → p ≡ p'
box_panel_at_one b link p p' e f = e ∙ sym f

pub box_receive_one : (g : Given) (area : List ℕ) (r r' : Receiver) (h h' : Handed) (x x' : List ℕ) → Receives g area (received_of r h) x → Receives g area (received_of r' h') x' → (r ≡ r') × ((h ≡ h') × (x ≡ x'))
box_receive_one g area r r' h h' x x' p q =
    let o = take_piece_one g area (received_of r h) (received_of r' h') x x' p q in
    let t = ap (λ (t : Received). t.taken) o.0 in
    let n = counted_one h.len h'.len (ap (λ (t : Received). t.len) o.0) in
    (ap (λ (t : Received). t.after) o.0, (rw (t, n) refl, o.1))

pub box_plain_one : (b : List ℕ) (l l' : Listing) (r r' : ℕ) → (l ≡ plain b) × (r ≡ number_of Done) → (l' ≡ plain b) × (r' ≡ number_of Done) → (l ≡ l') × (r ≡ r')
box_plain_one b l l' r r' p q = (p.0 ∙ sym q.0, p.1 ∙ sym q.1)
