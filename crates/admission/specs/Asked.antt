-- A process that starts, over times and greetings.
use Rattle.std.specs.Prelude.{◌≡◌, ℕ, List, [], ◌∷◌, ◌++◌, true, ◌||◌, Option, None, option_to_list}
use Rattle.nop_types.specs.Lists.{Has}
use Rattle.nop_types.specs.declared.output.Actor.{Actor}
use Rattle.admission.specs.declared.own.Own.{Own}
use Rattle.admission.specs.declared.own.Other.{Other}
use Rattle.admission.specs.declared.greeting.Greeting.{Greeting}
use Rattle.admission.specs.declared.greeting.Word.{Word}
use Rattle.admission.specs.declared.greeting.Word.TheVariants as words
use Rattle.admission.specs.Actors.{same_actor}
use Rattle.admission.specs.Questions.{Life, life_tells}
use Rattle.admission.specs.Rounds.{Asking, agree, have_all, have_most, heard, is_to, turned}

-- it goes on at a time, or a greeting comes from the address of an actor
pub data Event : Type 0 where
  Turns : ℕ → Event
  Hears : Actor → Greeting → Event

abbrev pub step : Asking → Event → Asking × Option Word
step s (Turns now) = turned s now
step s (Hears from g) = (heard s from g, None)

abbrev pub run : Asking → List Event → Asking
run s [] = s
run s (e ∷ es) = run (step s e).0 es

-- the words that it asks, in order
abbrev pub asked : Asking → List Event → List Word
asked s [] = []
asked s (e ∷ es) = option_to_list (step s e).1 ++ asked (step s e).0 es

-- the node said so in answer to what the process asked
pub record Said (own : Own) (es : List Event) (word : Word) (o : Other) : Type 0 where
  pub from : Actor
  pub greeting : Greeting
  pub heard : Has es (Hears from greeting)
  pub is_node : same_actor o.actor from ≡ true
  pub word_is : greeting.word ≡ word
  pub is_to : is_to own greeting ≡ true

-- all that count, or more than half of them, have answered, and each of these that its claim is noted
pub record ByMost (own : Own) (es : List Event) (s : Asking) : Type 0 where
  pub enough : (have_all own.actor s.others || have_most own.actor s.others) ≡ true
  pub said : (o : Other) → Has s.others o → o.has_answered ≡ true → Said own es words.Noted o

-- at some time the round of Asks came to an agreement of nodes each of which answered that the number is free
pub record BeganToClaim (own : Own) (s : Asking) (es : List Event) : Type 0 where
  pub before : List Event
  pub now : ℕ
  pub behind : List Event
  pub is : es ≡ before ++ Turns now ∷ behind
  pub asks : (run s before).word ≡ words.Ask
  pub agreed : agree (run s before) now ≡ true
  pub said : (o : Other) → Has (run s before).others o → o.has_answered ≡ true → Said own before words.Free o

-- what the process took for a note of its claim, the node's link said, which kept its memory
pub record IsAnswered (life : Actor → Life) (own : Own) (es : List Event) : Type 0 where
  pub said : (from : Actor) (g : Greeting) → Has es (Hears from g) → g.word ≡ words.Noted → is_to own g ≡ true
      → life_tells own.actor own.process (life from) ≡ true
