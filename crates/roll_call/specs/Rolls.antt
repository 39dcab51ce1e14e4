-- The nodes that are asked in rounds, and what is known of them.
use Rattle.std.specs.Prelude.{ℕ, ◌+◌, ◌-◌, List, [], Bool, true, false, nat_le, ◌==◌, ◌&&◌, cond, map, find, Option, Some, None, Result, Ok, Err}
use Rattle.std.specs.List.{flat_map}
use Rattle.nop_types.specs.declared.output.Actor.{Actor}
use Rattle.nop_types.specs.declared.output.Actor.TheVariants.{Controller}
use Rattle.admission.specs.Greetings.{reading}
use Rattle.admission.specs.declared.greeting.BadGreeting.{BadGreeting}
use Rattle.admission.specs.declared.greeting.Greeting.{Greeting}
use Rattle.admission.specs.declared.greeting.Word.{Word}
use Rattle.admission.specs.declared.greeting.Word.TheVariants.{Ask, Free, Taken}
use Rattle.roll_call.specs.Lines.{standing_lines}
use Rattle.roll_call.specs.Nodes.{judged, marked, news_of, unasked}
use Rattle.roll_call.specs.declared.answers.Asker.{Asker}
use Rattle.roll_call.specs.declared.answers.TheConstants.{ASKED_FROM}
use Rattle.roll_call.specs.declared.node.Asked.{Asked}
use Rattle.roll_call.specs.declared.node.Node.{Node}
use Rattle.roll_call.specs.declared.node.Standing.{Standing}
use Rattle.roll_call.specs.declared.roll.TheConstants.{ROUND_MILLIS}

-- ---- what is asked, and whose answer comes

-- whether the own number is free
abbrev pub question_by : Asker → ℕ → Greeting
question_by a port = record { word = Ask; digest = a.digest; number = a.number; process = ASKED_FROM + port }

abbrev pub is_answer : Word → Bool
is_answer Free = true
is_answer Taken = true
is_answer word = false

-- the answer to such a question names the port again
abbrev pub port_by : Asker → Greeting → Option ℕ
port_by a g =
    cond (is_answer g.word && ((g.digest == a.digest) && ((g.number == a.number) && nat_le ASKED_FROM g.process)))
    (Some (g.process - ASKED_FROM)) None

abbrev pub port_read : Asker → Result Greeting BadGreeting → Option ℕ
port_read a (Ok g) = port_by a g
port_read a (Err e) = None

-- the port of the node whose answer these bytes are
abbrev pub port_in : Asker → List ℕ → Option ℕ
port_in a bytes = port_read a (reading bytes)

-- ---- rounds

-- in whose name they are asked, when they were asked last, and the nodes
pub record Rolled : Type 0 where
  pub asker : Asker
  pub asked : Option ℕ
  pub nodes : List Asked

abbrev pub opening : Asker → List Node → Rolled
opening asker nodes = record { asker = asker; asked = None; nodes = map unasked nodes }

abbrev pub mark : Option ℕ → ℕ → List Asked → List Asked
mark None now nodes = nodes
mark (Some port) now nodes = map (marked port now) nodes

-- a datagram comes
abbrev pub heard : Rolled → ℕ → List ℕ → Rolled
heard r now bytes = record r { nodes = mark (port_in r.asker bytes) now r.nodes }

abbrev pub due_by : Option ℕ → ℕ → Bool
due_by None now = true
due_by (Some at) now = nat_le ROUND_MILLIS (now - at)

-- it is time for a round
abbrev pub is_due : Rolled → ℕ → Bool
is_due r now = due_by r.asked now

abbrev pub judged_by : Option ℕ → ℕ → List Asked → List Asked
judged_by None now nodes = nodes
judged_by (Some at) now nodes = map (judged now) nodes

-- a round: how nodes stand that were asked before, and then they are asked
abbrev pub turned : Rolled → ℕ → Rolled
turned r now = record r { asked = Some now; nodes = judged_by r.asked now r.nodes }

abbrev pub news_by : Option ℕ → ℕ → List Asked → List ℕ
news_by None now nodes = []
news_by (Some at) now nodes = flat_map (λ a. standing_lines a.node.actor (news_of now a)) nodes

-- the lines of the nodes that stand otherwise in a round than before
abbrev pub news : Rolled → ℕ → List ℕ
news r now = news_by r.asked now r.nodes

-- the lines of how nodes stand
abbrev pub standings : Rolled → List ℕ
standings r = flat_map (λ a. standing_lines a.node.actor a.standing) r.nodes

-- ---- a controller

abbrev pub is_controller : ℕ → Actor → Bool
is_controller c (Controller i) = i == c
is_controller c actor = false

abbrev pub silent_by : Option Standing → Option ℕ
silent_by None = None
silent_by (Some s) = cond s.answers None (Some s.since)

abbrev pub silent_in : Option Asked → Option ℕ
silent_in None = None
silent_in (Some a) = silent_by a.standing

-- since when the controller with this number is silent, if it is one of the nodes and is
abbrev pub silent_since : Rolled → ℕ → Option ℕ
silent_since r c = silent_in (find (λ a. is_controller c a.node.actor) r.nodes)
