use Rattle.std.proofs.Common.{rules, ◌≡◌, List, [], ◌∷◌, ◌++◌, All, sym, subst}
use Rattle.std.proofs.lemmas.List.Elements.{All-append, All-cons, All-nil}
use Rattle.picture.specs.declared.data.Note.{Note}
use Rattle.picture_labels.specs.Clients.{IsOfClient}
use Rattle.picture_labels.proofs.said.line_notes.Goals as goal

AllOfClient : List Note → Type 0
AllOfClient notes = All (λ n. IsOfClient n.mark) notes

longer : (xs ys : List Note) → (n : Note) → ys ≡ xs ++ n ∷ [] → AllOfClient xs → IsOfClient n.mark → AllOfClient ys
unfolding AllOfClient
longer xs ys n e before h =
    let P : Note → Type 0 = λ m. IsOfClient m.mark
    in subst AllOfClient (sym e) (All-append P xs (n ∷ []) before (All-cons P n [] h (All-nil P)))

pub loop-line-preserved-in_ok-push : goal.loop-line-preserved-in_ok-push
unfolding AllOfClient
loop-line-preserved-in_ok-push g c =
    longer c.loop-line.notes.items c.push.new.self.items c.in_ok-line_note.field-0 (search rules) c.loop-line.invariant (search rules)
