-- At the end of each run: what came to observers was sent by then, and lines read right where observers do.
use Rattle.std.proofs.Common.{◌≡◌, ◌<◌, ◌≤◌, ℕ, zero, suc, true, List, [], ◌∷◌, ◌++◌, length, length-append, Some}
use Rattle.std.proofs.Common.{refl, sym, ap, subst, ◌∙◌, arith, inl, inr}
use Rattle.std.specs.Prelude.{Result, Ok, Err, slice_get}
use Rattle.std.proofs.lemmas.Option.{slice_get_within}
use Rattle.nop_types.specs.Checkpoints.{KeepsTo}
use Rattle.nop_types.specs.Configuration.{Configuration, is_configuration}
use Rattle.nop_types.specs.Lines.{Line}
use Rattle.nop_types.specs.Lists.{Has}
use Rattle.nop_types.specs.Meaning.{Meaning}
use Rattle.nop_types.specs.Reads.{ReadsAreRight}
use Rattle.nop_types.specs.declared.request.Entry.{Entry}
use Rattle.lemmas.proofs.Members.{Has-none}
use Rattle.lemmas.proofs.Places.{slice_get-push_cases}
use Rattle.client_reads.specs.ReadSteps.{IsWithin}
use Rattle.client_quorum.specs.Core.{Client}
use Rattle.observer.specs.ObserverSteps as observer
use Rattle.observer.specs.ObserverSteps.{Observer}
use Rattle.observer.specs.Observing.{position}
use Rattle.schedule_text.specs.declared.event.Event.{Event}
use Rattle.schedule_text.specs.Fits.{EventsFit}
use Rattle.world.specs.Seats.{Seated, seated}
use Rattle.world.specs.WorldSteps.{WorldState, Happened, Refusal, numbered_seats, opening, opening_client, step, go_on, run_from, run}
use Rattle.read_laws.specs.Received.{Received, bytes_of}
use Rattle.read_laws.specs.Runs.{ObserversReceived, ObserversReadRight, RunsReceive, RunsReadRight}
use Rattle.read_laws.proofs.Coming.{received_opens}
use Rattle.read_laws.proofs.Exchanges as exchanges
use Rattle.read_laws.proofs.Exchanges.{opens, lines_are_right}
use Rattle.read_laws.proofs.Receiving.{run_receives, run_sends, step_receives}
use Rattle.read_laws.proofs.Worlds.{Kept, step_keeps}

-- ---- the opening

counted_length : {A : Type 0} (make : ℕ → A) (n : ℕ) → length (numbered_seats make n) ≡ n
counted_length make zero = refl
counted_length make (suc n) = omega (arith, length-append (numbered_seats make n) (seated (make n) ∷ []), counted_length make n)

-- the seat at a place is that of its number, which is below the count
record IsCounted {A : Type 0} (make : ℕ → A) (n i : ℕ) (p : Seated A) : Type 0 where
  made : make i ≡ p.state
  low : i < n

counted_made : {A : Type 0} (make : ℕ → A) (n i : ℕ) (p : Seated A) → slice_get (numbered_seats make n) i ≡ Some p → make i ≡ p.state
counted_made make zero i p e = absurd cc
counted_made make (suc n) i p e = elim (slice_get-push_cases (numbered_seats make n) (seated (make n)) i p e) [
  | inl h ↦ counted_made make n i p h.1
  | inr (a, b) ↦ ap make (a ∙ counted_length make n) ∙ ap (λ (q : Seated _). q.state) b
]

counted : {A : Type 0} (make : ℕ → A) (n i : ℕ) (p : Seated A) → slice_get (numbered_seats make n) i ≡ Some p → IsCounted make n i p
counted make n i p e = record {
  made = counted_made make n i p e;
  low = omega (arith, slice_get_within (numbered_seats make n) i p e, counted_length make n);
}

few_clients : (config : Configuration) → is_configuration config ≡ true → config.clients ≤ 16
few_clients config is = grind (arith, is)

opening_receives : {S : Type 0} (m : Meaning S) (config : Configuration) → ObserversReceived m config (opening config)
opening_receives m config i p at =
    subst (Received m config [] i) (counted (observer.opening config) config.observers i p at).made (received_opens m config i)

module _ {S : Type 0} (m : Meaning S) (IsSound : S → Type 0) (keeps : KeepsTo m IsSound) (config : Configuration)
    (is : is_configuration config ≡ true) (h : Happened) (main : List Entry) (right : ObserversReadRight m config h.world main) where
  abbrev IsKept : WorldState → List Line → Type 0
  IsKept t ls = Kept m IsSound keeps config is h.world main right t ls

  opening_kept : IsKept (opening config) []
  opening_kept = record {
    exchange = exchanges.opening;
    consistent = opens m main;
    shows = record {
      lines = refl;
      observers = λ i p at. (let c = counted (observer.opening config) config.observers i p at in
          record { low = c.low; is = ap (λ (s : Observer). position s.heard.state) c.made });
      clients = λ i p at. (let c = counted (opening_client config) config.clients i p at in
          let few = few_clients config is in
          record {
            number = ap (λ (s : Client). s.reads.number) (sym c.made);
            within = subst (λ (s : Client). IsWithin s.reads) c.made
                (record { number = (let low = c.low in omega (arith, low, few)); last_id = omega arith; pending = tt });
            last_is = ap (λ (s : Client). s.reads.last_id) c.made;
            pending_is = ap (λ (s : Client). s.reads.pending) c.made;
          });
      sent = λ b has. absurd (Has-none b has);
    };
  }

  -- ---- each event

  goes : (t : WorldState) (ls : List Line) (x : Event) (es : List Event) → EventsFit (x ∷ es) → ObserversReceived m config t → IsKept t ls
      → ((b : List ℕ) → Has (bytes_of t.sent) b → Has (bytes_of h.world.sent) b)
      → ((v : WorldState) (more : List Line) → ObserversReceived m config v → IsKept v more → run_from m more v es ≡ Ok h
      → IsKept h.world h.lines)
      → (r : Result Happened Refusal) → step m t x ≡ r → go_on m ls r (λ more v. run_from m more v es) ≡ Ok h → IsKept h.world h.lines
  goes t ls x es fits came kept within rest (Err refusal) steps e = absurd cc
  goes t ls x es fits came kept within rest (Ok g) steps e =
      rest g.world (ls ++ g.lines) (step_receives m config t x g came fits.0 steps)
      (step_keeps m IsSound keeps config is h.world main right t ls kept came within x g fits.0 steps) e

  all_kept : (es : List Event) (t : WorldState) (ls : List Line) → EventsFit es → ObserversReceived m config t → IsKept t ls
      → run_from m ls t es ≡ Ok h → IsKept h.world h.lines
  all_kept [] t ls fits came kept e =
      let same : record { world = t; lines = ls } ≡ h = cc in subst (λ (g : Happened). IsKept g.world g.lines) same kept
  all_kept (x ∷ es) t ls fits came kept e =
      goes t ls x es fits came kept (run_sends m (x ∷ es) t ls h e) (λ v more a k g. all_kept es v more fits.1 a k g) (step m t x) refl e

  pub reads_right : (es : List Event) → EventsFit es → run m config es ≡ Ok h → ReadsAreRight m h.lines main
  reads_right es fits e =
      let kept : IsKept h.world h.lines = all_kept es (opening config) [] fits (opening_receives m config) opening_kept e in
      subst (λ (ls : List Line). ReadsAreRight m ls main) kept.shows.lines (lines_are_right m main kept.exchange kept.consistent)

-- ---- every run

pub runs_receive : {S : Type 0} (m : Meaning S) → RunsReceive m
runs_receive m config es h is fits e = run_receives m config es (opening config) [] h fits (opening_receives m config) e

pub runs_read_right : {S : Type 0} (m : Meaning S) (IsSound : S → Type 0) → KeepsTo m IsSound → RunsReadRight m
runs_read_right m IsSound keeps config es h main is fits e right = reads_right m IsSound keeps config is h main right es fits e
