-- What a link keeps of the claims that it was told, and what it answers.
use Rattle.std.specs.Prelude.{ℕ, List, [], ◌∷◌, ◌++◌, Bool, true, false, nat_lt, ◌==◌, if◌then◌else◌, Option, Some, None}
use Rattle.std.specs.Prelude.{count_by, find, option_map, is_some}
use Rattle.nop_types.specs.declared.output.Actor.{Actor}
use Rattle.admission.specs.declared.claim.Claim.{Claim}
use Rattle.admission.specs.declared.greeting.Greeting.{Greeting}
use Rattle.admission.specs.declared.greeting.Word.{Word}
use Rattle.admission.specs.declared.greeting.Word.TheVariants as words
use Rattle.admission.specs.Actors.{actor_named, is_client, same_actor}

-- the digest of the own list of hosts, how many client numbers are noted at most, and the claims that are noted, in their order
pub record Claims : Type 0 where
  pub digest : ℕ
  pub most : ℕ
  pub noted : List Claim

-- no claim is noted
abbrev pub none_noted : ℕ → ℕ → Claims
none_noted digest most = record { digest = digest; most = most; noted = [] }

-- the process that has the actor's number
abbrev pub process_of : List Claim → Actor → Option ℕ
process_of noted actor = option_map (λ c. c.process) (find (λ c. same_actor c.actor actor) noted)

-- how many client numbers are noted
abbrev pub client_claims : List Claim → ℕ
client_claims noted = count_by (λ c. is_client c.actor) noted

-- there is always room for a node
abbrev pub has_room : Claims → Actor → Bool
has_room r actor = if is_client actor then nat_lt (client_claims r.noted) r.most else true

abbrev pub may_by : Option ℕ → Bool → ℕ → Bool
may_by (Some known) room process = known == process
may_by None room process = room

-- the number is this process's, or nobody's and there is room
abbrev pub may_have : Claims → Actor → ℕ → Bool
may_have r actor process = may_by (process_of r.noted actor) (has_room r actor) process

-- with the claim of the process, where none was noted
abbrev pub with_claim : List Claim → Actor → ℕ → List Claim
with_claim noted actor process =
    if is_some (process_of noted actor) then noted else noted ++ (record { actor = actor; process = process }) ∷ []

abbrev pub with_noted : Claims → Actor → ℕ → Claims
with_noted r actor process = record r { noted = with_claim r.noted actor process }

-- what is noted after a question whether the process may have the number, and the word of the answer
abbrev pub judged : Bool → Claims → Actor → ℕ → Word → Claims × Option Word
judged true r actor process words.Ask = (r, Some words.Free)
judged true r actor process words.Claim = (with_noted r actor process, Some words.Noted)
judged false r actor process words.Ask = (r, Some words.Taken)
judged false r actor process words.Claim = (r, Some words.Taken)
judged may r actor process _ = (r, None)

abbrev pub is_question : Word → Bool
is_question words.Ask = true
is_question words.Claim = true
is_question _ = false

-- a question that came with another list of hosts is answered so, and nothing is noted; what is no question has no answer
abbrev pub answered_of : Claims → Actor → Greeting → Claims × Option Word
answered_of r actor g =
    if g.digest == r.digest then judged (may_have r actor g.process) r actor g.process g.word
    else if is_question g.word then (r, Some words.Foreign)
    else (r, None)

abbrev pub answered_by : Claims → Option Actor → Greeting → Claims × Option Word
answered_by r None g = (r, None)
answered_by r (Some actor) g = answered_of r actor g

-- an answer has the digest, the number and the process of its question
abbrev pub answer_to : Greeting → Option Word → Option Greeting
answer_to g None = None
answer_to g (Some word) = Some (record g { word = word })

-- what is noted after a greeting from the address of `source`, and the word of the answer; a number that is none of the source's has no
-- answer
unfoldable pub answered : Claims → Actor → Greeting → Claims × Option Word
answered r source g = answered_by r (actor_named source g.number) g
