-- A guard goes on, step by step, and so it ran.
use Rattle.std.proofs.Common.{◌≡◌, ℕ, List, [], ◌∷◌, ◌++◌, refl, sym, ap, ◌∙◌, subst, inl, inr}
use Rattle.std.specs.Prelude.{Bool, true, false, IsTrue, IsFalse, Option, Some, None}
use Rattle.nop_types.specs.Lists.{Has}
use Rattle.nop_types.specs.declared.limits.TheConstants.{MAX_SERVED}
use Rattle.nop_types.specs.declared.output.Actor.{Actor}
use Rattle.lemmas.proofs.Members.{Has-first, Has-none, Has-one, Has-append_left, Has-append_right, Has-append_cases}
use Rattle.admission.specs.Asked.{ByMost, Event, Hears, Turns, run, step}
use Rattle.admission.specs.Questions.{Question, after, answer}
use Rattle.admission.specs.Registries.{Claims, none_noted}
use Rattle.admission.specs.Rounds.{Asking, opening, turned}
use Rattle.admission.specs.declared.own.Own.{Own}
use Rattle.admission.specs.declared.own.Standing.TheVariants.{Admitted}
use Rattle.admission.proofs.Admitted.{admitted_by_most}
use Rattle.udp_ports.specs.Guards.{GoesOn, Greets, IsAdmitted, IsNoGreeting, MayGoOn, Ran}
use Rattle.udp_ports.specs.declared.guard.Guard.{Guard}

-- ---- one list after the other

run_both : (s : Asking) (es fs : List Event) → run s (es ++ fs) ≡ run (run s es) fs
run_both s [] fs = refl
run_both s (e ∷ es) fs = run_both (step s e).0 es fs

after_both : (r : Claims) (qs rs : List Question) → after r (qs ++ rs) ≡ after (after r qs) rs
after_both r [] rs = refl
after_both r (q ∷ qs) rs = after_both (answer r q).0 qs rs

both_came : (es fs : List Event) (qs rs : List Question)
    → ((q : Question) → Has qs q → Has es (Hears q.source q.greeting))
    → ((q : Question) → Has rs q → Has fs (Hears q.source q.greeting))
    → (q : Question) → Has (qs ++ rs) q → Has (es ++ fs) (Hears q.source q.greeting)
both_came es fs qs rs h k q has = elim (Has-append_cases qs rs q has) [
  | inl l ↦ Has-append_left es fs (Hears q.source q.greeting) (h q l)
  | inr r ↦ Has-append_right es fs (Hears q.source q.greeting) (k q r)
]

-- ---- steps

pub stays : (g : Guard) → GoesOn g g
stays g =
    record { events = []; questions = []; came = λ q has. absurd (Has-none q has); same = refl; asking = refl; noting = refl }

pub and_then : (f g h : Guard) → GoesOn f g → GoesOn g h → GoesOn f h
and_then f g h a b =
    record {
      events = a.events ++ b.events;
      questions = a.questions ++ b.questions;
      came = both_came a.events b.events a.questions b.questions a.came b.came;
      same = b.same ∙ a.same;
      asking = b.asking ∙ ap (λ (s : Asking). run s b.events) a.asking ∙ sym (run_both f.admission a.events b.events);
      noting = b.noting ∙ ap (λ (r : Claims). after r b.questions) a.noting ∙ sym (after_both f.registry a.questions b.questions);
    }

pub turns : (now : ℕ) (g h : Guard) → h.own ≡ g.own → h.registry ≡ g.registry → h.admission ≡ (turned g.admission now).0 → GoesOn g h
turns now g h own registry admission =
    record {
      events = Turns now ∷ [];
      questions = [];
      came = λ q has. absurd (Has-none q has);
      same = own;
      asking = admission;
      noting = registry;
    }

heard_came : (q p : Question) → Has (p ∷ []) q → Has (Hears p.source p.greeting ∷ []) (Hears q.source q.greeting)
heard_came q p has =
    Has-first (Hears q.source q.greeting) (Hears p.source p.greeting) []
    (ap (λ (x : Question). Hears x.source x.greeting) (Has-one q p has))

pub greets : (from : Actor) (bytes : List ℕ) (g h : Guard) → h.own ≡ g.own → Greets from bytes g h → GoesOn g h
greets from bytes g h own x = elim x.noted [
  | inl l ↦ record {
    events = Hears from x.greeting ∷ [];
    questions = (record { source = from; greeting = x.greeting }) ∷ [];
    came = λ q has. heard_came q (record { source = from; greeting = x.greeting }) has;
    same = own;
    asking = x.heard;
    noting = l;
  }
  | inr r ↦ record {
    events = Hears from x.greeting ∷ [];
    questions = [];
    came = λ q has. absurd (Has-none q has);
    same = own;
    asking = x.heard;
    noting = r;
  }
]

-- whether the bytes were a greeting or not
pub greeted : (from : Actor) (bytes : List ℕ) (g h : Guard) (is : Bool) → (IsTrue is → Greets from bytes g h)
    → (IsFalse is → IsNoGreeting bytes × (h ≡ g)) → h.own ≡ g.own → GoesOn g h
greeted from bytes g h true a b own = greets from bytes g h own (a refl)
greeted from bytes g h false a b own = subst (λ (x : Guard). GoesOn g x) (sym (b refl).1) (stays g)

-- ---- where there is a guard

pub may_stay : (x : Option Guard) → MayGoOn x x
may_stay None = tt
may_stay (Some g) = stays g

pub may_and_then : (x y z : Option Guard) → MayGoOn x y → MayGoOn y z → MayGoOn x z
may_and_then None None None a b = tt
may_and_then (Some f) (Some g) (Some h) a b = and_then f g h a b
may_and_then None (Some g) z a b = absurd a
may_and_then (Some f) None z a b = absurd a
may_and_then None None (Some h) a b = absurd b
may_and_then (Some f) (Some g) None a b = absurd b

-- ---- from the start

pub begins : (own : Own) (actors : List Actor) (start : ℕ) (g : Guard) → g.own ≡ own → g.admission ≡ opening own actors start
    → g.registry ≡ none_noted own.digest MAX_SERVED → Ran own actors g
begins own actors start g same asking noting =
    record {
      start = start;
      events = [];
      questions = [];
      came = λ q has. absurd (Has-none q has);
      same = same;
      asking = asking;
      noting = noting;
    }

pub ran_on : (own : Own) (actors : List Actor) (g h : Guard) → Ran own actors g → GoesOn g h → Ran own actors h
ran_on own actors g h a b =
    record {
      start = a.start;
      events = a.events ++ b.events;
      questions = a.questions ++ b.questions;
      came = both_came a.events b.events a.questions b.questions a.came b.came;
      same = b.same ∙ a.same;
      asking = b.asking ∙ ap (λ (s : Asking). run s b.events) a.asking ∙ sym (run_both (opening own actors a.start) a.events b.events);
      noting =
          b.noting ∙ ap (λ (r : Claims). after r b.questions) a.noting
          ∙ sym (after_both (none_noted own.digest MAX_SERVED) a.questions b.questions);
    }

pub last_standing : (own : Own) (actors : List Actor) (g : Guard) (ran : Ran own actors g) → g.admission.standing ≡ Admitted
    → (run (opening own actors ran.start) ran.events).standing ≡ Admitted
last_standing own actors g ran standing = ap (λ (s : Asking). s.standing) (sym ran.asking) ∙ standing

pub is_admitted : (own : Own) (actors : List Actor) (g : Guard) → Ran own actors g → g.admission.standing ≡ Admitted
    → IsAdmitted own actors g
is_admitted own actors g ran standing =
    record {
      ran = ran;
      standing = standing;
      noted =
          subst (λ (s : Asking). ByMost own ran.events s) (sym ran.asking)
          (admitted_by_most own actors ran.start ran.events (last_standing own actors g ran standing));
    }
