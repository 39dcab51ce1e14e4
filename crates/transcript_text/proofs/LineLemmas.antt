-- The longer lines of a transcript as the texts of their fields.
use Rattle.std.proofs.Common.{◌≡◌, ℕ, Bool, List, [], ◌∷◌, length, codes, decimal, slice_index, refl, sym, ap, ◌∙◌, ◌++◌, append_assoc}
use Rattle.std.proofs.lemmas.List.{append-nil}
use Rattle.std.proofs.lemmas.Bool.{ne_eqb}
use Rattle.nop_types.specs.Configuration.{Configuration}
use Rattle.nop_types.specs.declared.output.Actor.{Actor}
use Rattle.nop_types.specs.declared.output.Actor.TheVariants as actors
use Rattle.nop_types.specs.declared.output.Dest.{Dest}
use Rattle.nop_types.specs.declared.replica_state.Phase.{Phase}
use Rattle.nop_types.specs.declared.view.View.{View}
use Rattle.transcript_text.specs.LineText.{line_of}
use Rattle.transcript_text.specs.Transcript.{actor_text, dest_text, hex_text, kind_text, phase_text, up_text, send_line, answer_line, replica_line}
use Rattle.transcript_text.specs.Transcript.{controllers_text, watching_text, line_end, observer_line, counts_line}

pub first_form : (word : List ℕ) (c : Configuration) →
    line_of word (decimal 1 ∷ codes "replicas" ∷ decimal c.replicas ∷ codes "sequencers" ∷ decimal c.sequencers ∷ codes
    "clients" ∷ decimal c.clients ∷ []) ≡ counts_line word 1 c
unfolding counts_line
first_form word c = simp append_assoc

abbrev three_counts : List ℕ → ℕ → Configuration → List ℕ
three_counts word form c = word ++ codes " " ++ decimal form ++ codes " replicas " ++ decimal c.replicas ++ codes " sequencers "
    ++ decimal c.sequencers ++ codes " clients " ++ decimal c.clients

four_counts : (word : List ℕ) (form : ℕ) (c : Configuration) →
    line_of word (decimal form ∷ codes "replicas" ∷ decimal c.replicas ∷ codes "sequencers" ∷ decimal c.sequencers ∷ codes
    "clients" ∷ decimal c.clients ∷ codes "controllers" ∷ decimal c.controllers ∷ [])
    ≡ three_counts word form c ++ codes " controllers " ++ decimal c.controllers ++ line_end
four_counts word form c = simp append_assoc

nothing_more : (a b c : List ℕ) → a ++ b ++ c ≡ a ++ (b ++ c) ++ []
nothing_more a b c = simp (append_assoc, append-nil)

pub second_form : (word : List ℕ) (c : Configuration) →
    line_of word (decimal 2 ∷ codes "replicas" ∷ decimal c.replicas ∷ codes "sequencers" ∷ decimal c.sequencers ∷ codes
    "clients" ∷ decimal c.clients ∷ codes "controllers" ∷ decimal c.controllers ∷ []) ≡ counts_line word 2 c
unfolding counts_line
second_form word c =
    four_counts word 2 c
    ∙ ap (λ (text : List ℕ). text ++ line_end) (nothing_more (three_counts word 2 c) (codes " controllers ") (decimal c.controllers))

all_counts : (word : List ℕ) (form : ℕ) (c : Configuration) →
    line_of word (decimal form ∷ codes "replicas" ∷ decimal c.replicas ∷ codes "sequencers" ∷ decimal c.sequencers ∷ codes
    "clients" ∷ decimal c.clients ∷ codes "controllers" ∷ decimal c.controllers ∷ codes "observers" ∷ decimal c.observers ∷ [])
    ≡ three_counts word form c ++ codes " controllers " ++ decimal c.controllers ++ codes " observers " ++ decimal c.observers ++ line_end
all_counts word form c = simp append_assoc

two_pairs : (a b c d e : List ℕ) → a ++ b ++ c ++ d ++ e ≡ a ++ (b ++ c) ++ (d ++ e)
two_pairs a b c d e = simp append_assoc

-- a form that is neither the first nor the second counts all
pub third_form : (word : List ℕ) (form : ℕ) (c : Configuration) → (form ≡ 1 → ⊥) → (form ≡ 2 → ⊥) →
    line_of word (decimal form ∷ codes "replicas" ∷ decimal c.replicas ∷ codes "sequencers" ∷ decimal c.sequencers ∷ codes
    "clients" ∷ decimal c.clients ∷ codes "controllers" ∷ decimal c.controllers ∷ codes "observers" ∷ decimal c.observers ∷ [])
    ≡ counts_line word form c
unfolding counts_line
third_form word form c first second =
    let counts : List ℕ = three_counts word form c in
    let controllers : controllers_text form c.controllers ≡ codes " controllers " ++ decimal c.controllers = rw (ne_eqb form 1 first) refl in
    let observers : watching_text form c.observers ≡ codes " observers " ++ decimal c.observers =
    rw (ne_eqb form 1 first) (rw (ne_eqb form 2 second) refl) in
    all_counts word form c ∙ ap (λ (text : List ℕ). text ++ line_end)
    (two_pairs counts (codes " controllers ") (decimal c.controllers) (codes " observers ") (decimal c.observers)
    ∙ ap (λ (text : List ℕ). counts ++ text ++ (codes " observers " ++ decimal c.observers)) (sym controllers)
    ∙ ap (λ (text : List ℕ). counts ++ controllers_text form c.controllers ++ text) (sym observers))

pub send_fields : (index : ℕ) (from : Actor) (dest : Dest) (datagram : List ℕ) →
    line_of (codes "send") (decimal index ∷ actor_text from ∷ dest_text dest ∷ kind_text (slice_index datagram 3) ∷ decimal
    (length datagram) ∷ []) ≡ send_line index from dest datagram
unfolding send_line
send_fields index from dest datagram = simp append_assoc

pub answer_fields : (client id observer position : ℕ) (result : List ℕ) →
    line_of (codes "answer") (actor_text (actors.Client client) ∷ decimal id ∷ actor_text (actors.Observer observer) ∷ decimal
    position ∷ hex_text result ∷ []) ≡ answer_line client id observer position result
unfolding answer_line
answer_fields client id observer position result = simp append_assoc

pub replica_fields : (number : ℕ) (crashed : Bool) (status : Phase) (view : View) (len sync_point : ℕ) →
    line_of (codes "replica") (actor_text (actors.Replica number) ∷ up_text crashed ∷ phase_text status ∷ decimal view.leader ∷ decimal
    view.session ∷ decimal len ∷ decimal sync_point ∷ []) ≡ replica_line number crashed status view len sync_point
unfolding replica_line
replica_fields number crashed status view len sync_point = simp append_assoc

pub observer_fields : (number : ℕ) (crashed : Bool) (position : ℕ) →
    line_of (codes "observer") (actor_text (actors.Observer number) ∷ up_text crashed ∷ decimal position ∷ [])
    ≡ observer_line number crashed position
unfolding observer_line
observer_fields number crashed position = simp append_assoc
