-- Who has which number, as far as a link was told, and whether its own process may have its own.
use Rattle.std.specs.Prelude.{◌≡◌, ◌≢◌, ◌⊎◌, ℕ, List, map, find, ◌==◌, Option, Some, None, Ok}
use Rattle.nop_types.specs.Lists.{Has}
use Rattle.nop_types.specs.declared.limits.TheConstants.{MAX_SERVED}
use Rattle.nop_types.specs.declared.output.Actor.{Actor}
use Rattle.admission.specs.Actors.{number_of}
use Rattle.admission.specs.Asked.{ByMost, Event, Hears, run}
use Rattle.admission.specs.Greetings.{reading}
use Rattle.admission.specs.Questions.{Life, Question, after}
use Rattle.admission.specs.Registries.{answered, none_noted}
use Rattle.admission.specs.Rounds.{heard, opening}
use Rattle.admission.specs.declared.greeting.Greeting.{Greeting}
use Rattle.admission.specs.declared.greeting.Word.{Word}
use Rattle.admission.specs.declared.own.Own.{Own}
use Rattle.admission.specs.declared.own.Standing.TheVariants.{Admitted}
use Rattle.udp_ports.specs.declared.guard.Guard.{Guard}
use Rattle.udp_ports.specs.declared.guard.Home.{Home}
use Rattle.udp_ports.specs.declared.places.Place.{Place}

-- what a process asks
abbrev pub question : Own → Word → Greeting
question own word = record { word = word; digest = own.digest; number = number_of own.actor; process = own.process }

abbrev pub IsNoGreeting : List ℕ → Type 0
IsNoGreeting bytes = (g : Greeting) → reading bytes ≢ Ok g

-- a greeting came from the address of an actor: the own process hears it, and what it claims is noted, if there is memory
pub record Greets (from : Actor) (bytes : List ℕ) (old new : Guard) : Type 0 where
  pub greeting : Greeting
  pub read : reading bytes ≡ Ok greeting
  pub heard : new.admission ≡ heard old.admission from greeting
  pub noted : (new.registry ≡ (answered old.registry from greeting).0) ⊎ (new.registry ≡ old.registry)

-- ---- over time

abbrev pub actors_at : List Place → List Actor
actors_at places = map (λ p. p.actor) places

-- the process is the same; it went on by these times and greetings, and of these greetings the link judged some, which are all
-- questions that came
pub record GoesOn (old new : Guard) : Type 0 where
  pub events : List Event
  pub questions : List Question
  pub came : (q : Question) → Has questions q → Has events (Hears q.source q.greeting)
  pub same : new.own ≡ old.own
  pub asking : new.admission ≡ run old.admission events
  pub noting : new.registry ≡ after old.registry questions

-- the same since the process began to ask, when nothing was noted: `admission` says what follows
pub record Ran (own : Own) (actors : List Actor) (guard : Guard) : Type 0 where
  pub start : ℕ
  pub events : List Event
  pub questions : List Question
  pub came : (q : Question) → Has questions q → Has events (Hears q.source q.greeting)
  pub same : guard.own ≡ own
  pub asking : guard.admission ≡ run (opening own actors start) events
  pub noting : guard.registry ≡ after (none_noted own.digest MAX_SERVED) questions

-- the life of a link, as `admission` has it: what it was asked, and judged
abbrev pub life_of : (own : Own) (actors : List Actor) (guard : Guard) → Ran own actors guard → Life
life_of own actors guard ran = record { digest = own.digest; most = MAX_SERVED; questions = ran.questions }

-- the process was admitted: all whose answers count, or more than half of them, said that its claim is noted
pub record IsAdmitted (own : Own) (actors : List Actor) (guard : Guard) : Type 0 where
  pub ran : Ran own actors guard
  pub standing : guard.admission.standing ≡ Admitted
  pub noted : ByMost own ran.events guard.admission

-- the first home with this port
abbrev pub home_at : ℕ → List Home → Option Home
home_at port homes = find (λ home. home.port == port) homes

-- the guard of a link: of a process that claims a number, that of one that was admitted; of one that only listens, none
abbrev pub IsGuarded : (claims : Option Own) → List Actor → Option Guard → Type 0
IsGuarded None actors guard = guard ≡ None
IsGuarded (Some own) actors None = ⊥
IsGuarded (Some own) actors (Some guard) = IsAdmitted own actors guard

-- a link at the port of one of the homes
pub record Attaches (homes : List Home) (port : ℕ) (guard : Option Guard) : Type 0 where
  pub home : Home
  pub at : home_at port homes ≡ Some home
  pub guarded : IsGuarded home.claims (actors_at home.places.now) guard

-- a link at a port: with no homes at any, without a guard; else at that of a home
abbrev pub MayAttach : Option (List Home) → ℕ → Option Guard → Type 0
MayAttach None port guard = guard ≡ None
MayAttach (Some homes) port guard = Attaches homes port guard

-- the guard of a link goes on, where it has one
abbrev pub MayGoOn : Option Guard → Option Guard → Type 0
MayGoOn (Some old) (Some new) = GoesOn old new
MayGoOn None None = Unit {0}
MayGoOn old new = ⊥
