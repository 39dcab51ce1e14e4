-- Links over their lives, and whom they told that a number is noted.
use Rattle.std.specs.Prelude.{ℕ, ◌*◌, ◌<◌, List, [], ◌∷◌, length, count_by, Bool, true, false, ◌==◌, ◌&&◌, ◌||◌, Option, Some, None}
use Rattle.nop_types.specs.declared.output.Actor.{Actor}
use Rattle.admission.specs.declared.greeting.Greeting.{Greeting}
use Rattle.admission.specs.declared.greeting.Word.{Word}
use Rattle.admission.specs.declared.greeting.Word.TheVariants as words
use Rattle.admission.specs.Actors.{actor_named, same_actor}
use Rattle.admission.specs.Registries.{Claims, answered, none_noted}

-- a greeting, and the actor from whose address it came
pub record Question : Type 0 where
  pub source : Actor
  pub greeting : Greeting

abbrev pub answer : Claims → Question → Claims × Option Word
answer r q = answered r q.source q.greeting

-- what is noted after these questions
abbrev pub after : Claims → List Question → Claims
after r [] = r
after r (q ∷ qs) = after (answer r q).0 qs

abbrev pub is_noted : Option Word → Bool
is_noted (Some words.Noted) = true
is_noted _ = false

abbrev pub is_named : Option Actor → Actor → Bool
is_named None actor = false
is_named (Some a) actor = same_actor a actor

-- this question was the process's, for this actor, and its answer that it is noted
abbrev pub tells : Claims → Question → Actor → ℕ → Bool
tells r q actor process =
    is_named (actor_named q.source q.greeting.number) actor && ((q.greeting.process == process) && is_noted (answer r q).1)

-- among these questions the process was told that the actor's number is noted for it
abbrev pub was_told : Claims → List Question → Actor → ℕ → Bool
was_told r [] actor process = false
was_told r (q ∷ qs) actor process = tells r q actor process || was_told (answer r q).0 qs actor process

-- a link that kept its memory: its list's digest, how many client numbers it notes, and all that it was asked
pub record Life : Type 0 where
  pub digest : ℕ
  pub most : ℕ
  pub questions : List Question

abbrev pub life_tells : Actor → ℕ → Life → Bool
life_tells actor process l = was_told (none_noted l.digest l.most) l.questions actor process

-- more than half of the links told the process that the number is noted for it
abbrev pub NotedByMost : List Life → Actor → ℕ → Type 0
NotedByMost lives actor process = length lives < 2 * count_by (life_tells actor process) lives
