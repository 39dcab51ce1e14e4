-- What a process that starts asks, and when it is admitted.
use Rattle.std.specs.Prelude.{ℕ, ◌-◌, ◌*◌, List, [], ◌∷◌, Bool, true, false, nat_le, nat_lt, ◌==◌, ◌&&◌, ◌||◌, if◌then◌else◌}
use Rattle.std.specs.Prelude.{Option, Some, None, count_by, map}
use Rattle.std.specs.List.{list_all, list_any}
use Rattle.nop_types.specs.declared.output.Actor.{Actor}
use Rattle.admission.specs.declared.own.Own.{Own}
use Rattle.admission.specs.declared.own.Other.{Other}
use Rattle.admission.specs.declared.own.Standing.{Standing}
use Rattle.admission.specs.declared.own.Standing.TheVariants.{Going, Admitted, Refused, Late}
use Rattle.admission.specs.declared.own.TheConstants.{ASK_MICROS, ALL_MICROS, ROUND_MICROS, REMIND_MICROS}
use Rattle.admission.specs.declared.greeting.Greeting.{Greeting}
use Rattle.admission.specs.declared.greeting.Word.{Word}
use Rattle.admission.specs.declared.greeting.Word.TheVariants as words
use Rattle.admission.specs.Actors.{counts, is_asked, number_of, same_actor}

-- the process, the nodes that it asks and which of them have answered in this round, the word that it asks, when the round began and when
-- it asked last, in microseconds, and how it stands
pub record Asking : Type 0 where
  pub own : Own
  pub others : List Other
  pub word : Word
  pub start : ℕ
  pub last : Option ℕ
  pub standing : Standing

abbrev pub unanswered : Actor → Other
unanswered actor = record { actor = actor; has_answered = false }

-- those of the nodes that are asked
abbrev pub others_of : Actor → List Actor → List Other
others_of own [] = []
others_of own (a ∷ rest) = if is_asked own a then unanswered a ∷ others_of own rest else others_of own rest

abbrev pub opening : Own → List Actor → ℕ → Asking
opening own nodes now =
    record { own = own; others = others_of own.actor nodes; word = words.Ask; start = now; last = None; standing = Going }

-- ---- a round

-- how many answers count, and how many of these have come
abbrev pub how_many : Actor → List Other → ℕ
how_many own others = count_by (λ o. counts own o.actor) others

abbrev pub answers : Actor → List Other → ℕ
answers own others = count_by (λ o. counts own o.actor && o.has_answered) others

-- all that count have answered, or more than half of them
abbrev pub have_all : Actor → List Other → Bool
have_all own others = nat_le (how_many own others) (answers own others)

abbrev pub have_most : Actor → List Other → Bool
have_most own others = nat_lt (how_many own others) (2 * answers own others)

-- all have answered, or after a while more than half
abbrev pub agreed : Actor → List Other → Bool → Bool
agreed own others waited = have_all own others || (waited && have_most own others)

abbrev pub agree : Asking → ℕ → Bool
agree s now = agreed s.own.actor s.others (nat_le ALL_MICROS (now - s.start))

abbrev pub is_late : Asking → ℕ → Bool
is_late s now = nat_le ROUND_MICROS (now - s.start)

-- it was not asked yet, or that long ago
abbrev pub is_due : ℕ → Option ℕ → ℕ → Bool
is_due period None now = true
is_due period (Some last) now = nat_le period (now - last)

-- ---- a time

-- the word is asked of all that have not answered, where the last time is that long ago
abbrev pub asked_again : ℕ → Asking → ℕ → Asking × Option Word
asked_again period s now = if is_due period s.last now then (record s { last = Some now }, Some s.word) else (s, None)

abbrev pub forgotten : List Other → List Other
forgotten others = map (λ o. unanswered o.actor) others

-- after the round of Asks the round of Claims, whose first is asked at once; after that it is admitted
abbrev pub next_round : Word → Asking → ℕ → Asking × Option Word
next_round words.Ask s now =
    (record s { others = forgotten s.others; word = words.Claim; start = now; last = Some now }, Some words.Claim)
next_round _ s now = (record s { standing = Admitted }, None)

abbrev pub gone_on : Asking → ℕ → Asking × Option Word
gone_on s now =
    if agree s now then next_round s.word s now
    else if is_late s now then (record s { standing = Late }, None)
    else asked_again ASK_MICROS s now

-- who is admitted goes on claiming at those that have not noted it
abbrev pub reminded : Asking → ℕ → Asking × Option Word
reminded s now = if list_all (λ o. o.has_answered) s.others then (s, None) else asked_again REMIND_MICROS s now

abbrev pub turned_by : Standing → Asking → ℕ → Asking × Option Word
turned_by Going s now = gone_on s now
turned_by Admitted s now = reminded s now
turned_by _ s now = (s, None)

-- how it goes on at a time, and the word that it asks then of all that have not answered
unfoldable pub turned : Asking → ℕ → Asking × Option Word
turned s now = turned_by s.standing s now

-- ---- an answer

-- the answer is to what this process asked
abbrev pub is_to : Own → Greeting → Bool
is_to own g = (g.digest == own.digest) && ((g.number == number_of own.actor) && (g.process == own.process))

abbrev pub is_other : List Other → Actor → Bool
is_other others from = list_any (λ o. same_actor o.actor from) others

abbrev pub marked : Actor → Other → Other
marked from o = if same_actor o.actor from then record o { has_answered = true } else o

abbrev pub with_answer : Asking → Actor → Asking
with_answer s from = record s { others = map (marked from) s.others }

abbrev pub is_ask : Word → Bool
is_ask words.Ask = true
is_ask _ = false

abbrev pub is_claim : Word → Bool
is_claim words.Claim = true
is_claim _ = false

abbrev pub is_going : Standing → Bool
is_going Going = true
is_going _ = false

abbrev pub is_admitted : Standing → Bool
is_admitted Admitted = true
is_admitted _ = false

-- the word agrees to what is asked: Free to an Ask, Noted to a Claim, also after the admission
abbrev pub is_agreement : Word → Word → Standing → Bool
is_agreement words.Free asked standing = is_ask asked && is_going standing
is_agreement words.Noted asked standing = is_claim asked && (is_going standing || is_admitted standing)
is_agreement _ asked standing = false

-- the word ends a round
abbrev pub is_refusal : Word → Bool
is_refusal words.Taken = true
is_refusal words.Foreign = true
is_refusal _ = false

abbrev pub heard_word : Word → Asking → Actor → Asking
heard_word word s from =
    if is_agreement word s.word s.standing then with_answer s from
    else if is_refusal word && is_going s.standing then record s { standing = Refused }
    else s

-- how it stands after a greeting from the address of an actor
unfoldable pub heard : Asking → Actor → Greeting → Asking
heard s from g = if is_to s.own g && is_other s.others from then heard_word g.word s from else s
