-- The links of a gateway, as they are attached.
use Rattle.std.specs.Prelude.{◌≡◌, ◌+◌, ℕ, zero, suc, List, [], ◌∷◌, map, drop, ⊤, Option, Some, None}
use Rattle.outside.specs.Ports.{next_link}
use Rattle.outside.specs.declared.link.PollAnswer.{PollAnswer}
use Rattle.gate.specs.Sides.{LinkSeen}

-- the first links of those to come, on which no call was made
abbrev pub first_links : ℕ → List (List PollAnswer) → List LinkSeen
first_links zero polls = []
first_links (suc n) polls = record { answers = Some (next_link polls); faults = 0 } ∷ first_links n (drop 1 polls)

-- where the ports tell their links, these are the first ones
abbrev pub AreFirst : ℕ → Option (List (List PollAnswer)) → List LinkSeen → Type 0
AreFirst count None links = ⊤
AreFirst count (Some polls) links = links ≡ first_links count polls

-- how many links are attached: one for each of so many cores, and one for the watch at the place of an observer, if there is one
abbrev pub seat_count : Option ℕ → (count : ℕ) → ℕ
seat_count None count = count
seat_count (Some observer) count = count + 1

-- no poll of them failed
abbrev pub none_failed : ℕ → List ℕ
none_failed zero = []
none_failed (suc n) = 0 ∷ none_failed n

-- so many links that are new
pub record AreNew (count : ℕ) (to_come : Option (List (List PollAnswer))) (links : List LinkSeen) : Type 0 where
  pub first : AreFirst count to_come links
  pub faults : map (λ x. x.faults) links ≡ none_failed count
