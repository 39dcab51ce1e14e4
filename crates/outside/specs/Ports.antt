-- Which links ports give.
use Rattle.std.specs.Prelude.{◌≡◌, List, [], ◌∷◌, drop, Option, Some, None, ⊤}
use Rattle.outside.specs.declared.link.PollAnswer.{PollAnswer}
use Rattle.outside.specs.declared.link.LinkCall.{LinkCall}

-- what the polls of the next link answer: nothing after the last link
abbrev pub next_link : List (List PollAnswer) → List PollAnswer
next_link [] = []
next_link (answers ∷ links) = answers

-- the link that was given is the next one, where the ports are observable, and no call was made on it
abbrev pub GivesNext : Option (List (List PollAnswer)) → Option (List (List PollAnswer)) → Option (List PollAnswer)
    → Option (List LinkCall) → Type 0
GivesNext None new answers trace = ⊤
GivesNext (Some links) new answers trace = (new ≡ Some (drop 1 links)) × (answers ≡ Some (next_link links)) × (trace ≡ Some [])
