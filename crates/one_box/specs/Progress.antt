-- How far timers and turns have come.
use Rattle.std.specs.Prelude.{◌≡◌, ℕ, List, ◌++◌, length, option_map}
use Rattle.nop_types.specs.Meaning.{Meaning}
use Rattle.udp_node.specs.declared.firing.Timer.{Timer}
use Rattle.one_box.specs.declared.node.BoxActor as code_node
use Rattle.one_box.specs.ClusterRun.{Course, BoxActor, fire_due, turn}
use Rattle.one_box.specs.Showing.{LinkView, Shows, AllShow}

module _ {S L : Type 0} (m : Meaning S) (v : LinkView L) (ops : List (List ℕ)) where
  -- some timers have fired where they were due, and the rest leads where all of them lead
  pub record FiringOn (now : ℕ) (all rest : List Timer) (c : Course) (n : BoxActor) (d : Course) (y : code_node.BoxActor L) : Type 0 where
    pub node : BoxActor
    pub shows : Shows v node y
    pub goes : fire_due m ops now rest d node ≡ fire_due m ops now all c n

  -- so many actors had their part of a turn, and the rest leads where all of them lead
  pub record TurningOn (now : ℕ) (c : Course) (ns : List BoxActor) (i : ℕ) (d : Course) (ys : List (code_node.BoxActor L)) : Type 0 where
    pub before : List BoxActor
    pub rest : List BoxActor
    pub count : length before ≡ i
    pub shown : AllShow v (before ++ rest) ys
    pub goes : option_map (λ q. (q.0, before ++ q.1)) (turn m ops now d rest) ≡ turn m ops now c ns
