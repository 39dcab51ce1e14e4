-- What a node does over its devices, and what of it stays as it was.
use Rattle.std.specs.Prelude.{◌≡◌, ◌≤◌, ◌+◌, ◌-◌, ℕ, min, false, List, [], Option, Result, IfOk, OnOk}
use Rattle.nop_types.specs.Given.{Given}
use Rattle.nop_types.specs.declared.core_trait.Core as cores
use Rattle.outside.specs.Causes.{CountsFor}
use Rattle.outside.specs.declared.errors.DeviceError.{DeviceError}
use Rattle.outside.specs.declared.errors.DeviceError.TheVariants.{Failed}
use Rattle.outside.specs.declared.link.Link as links
use Rattle.outside.specs.declared.sink.Sink as sinks
use Rattle.udp_node.specs.declared.errors.ServeError.{ServeError}
use Rattle.udp_node.specs.declared.errors.ServeError.TheVariants.{LinkFault, WriteFault}
use Rattle.udp_node.specs.declared.firing.Timer.{Timer}
use Rattle.udp_node.specs.declared.node.Node.{Node}
use Rattle.udp_node.specs.declared.serving.Served.{Served}
use Rattle.udp_node.specs.Effects.{Effect, Step, Carries, WroteText, step_effects}
use Rattle.udp_node.specs.Folding.{Runs, TookSome}
use Rattle.udp_node.specs.NodeRun.{ServesObserved}
use Rattle.udp_node.specs.Sends.{LinkSide, Unpolled, side_of, last_count}
use Rattle.udp_node.specs.Turns.{TurnEnds}

-- what a step of its core asks of the outside
abbrev pub asks_of : {C L W : Type 0} → Node C L W → Step → List Effect
asks_of x = step_effects x.trace x.at

module _ {C L W : Type 0} (link : links.Ghosts L) where
  abbrev pub link_side : Node C L W → LinkSide
  link_side x = side_of link x.link.now x.lost

  -- it is at its place, traced or not, with its core and its devices
  pub record Same (old new : Node C L W) : Type 0 where
    pub at : new.at ≡ old.at
    pub trace : new.trace ≡ old.trace
    pub its_core : new.core.ghost_name ≡ old.core.ghost_name
    pub its_link : new.link.ghost_name ≡ old.link.ghost_name
    pub its_sink : new.sink.ghost_name ≡ old.sink.ghost_name
    pub port : link.own_port new.link.now ≡ link.own_port old.link.now

module _ {C L W : Type 0} (link : links.Ghosts L) (sink : sinks.Ghosts W) where
  -- it did this; its core took no step
  pub record Does {T : Type 0} (old new : Node C L W) (es : List Effect) (result : Result T DeviceError) : Type 0 where
    pub idle : new.core ≡ old.core
    pub carries : Carries es result (link_side link old) (link_side link new) (sink.held old.sink.now) (sink.held new.sink.now)
    pub count : CountsFor (sink.fault_count old.sink.now) (sink.fault_count new.sink.now) Failed result
    pub unpolled : Unpolled link old.link.now new.link.now
    pub same : Same link old new

  -- what the counts of faults of its devices say of a result
  pub record Faults {T : Type 0} (old new : Node C L W) (result : Result T ServeError) : Type 0 where
    pub polls : CountsFor (link.fault_count old.link.now) (link.fault_count new.link.now) LinkFault result
    pub writes : CountsFor (sink.fault_count old.sink.now) (sink.fault_count new.sink.now) WriteFault result

module _ {C L W : Type 0} (core : cores.Ghosts C) (link : links.Ghosts L) (sink : sinks.Ghosts W) where
  -- its core took these inputs, and it did what they gave
  pub record Takes {T : Type 0} (old new : Node C L W) (inputs : List Given) (result : Result T DeviceError) : Type 0 where
    pub runs : Runs core.next (asks_of old) (core.state old.core.now) (core.state new.core.now) inputs result (link_side link old)
        (link_side link new) (sink.held old.sink.now) (sink.held new.sink.now)
    pub count : CountsFor (sink.fault_count old.sink.now) (sink.fault_count new.sink.now) Failed result
    pub unpolled : Unpolled link old.link.now new.link.now
    pub same : Same link old new

  -- it took a turn
  abbrev pub TakesTurn : {T : Type 0} → Node C L W → Node C L W → ℕ → List Timer → List Timer → Result T ServeError → Type 0
  TakesTurn old new now ts us result =
      TurnEnds core.next (asks_of old) (core.state old.core.now) (core.state new.core.now) now ts us (link.answers old.link.now)
      (link.answers new.link.now) result (link_side link old) (link_side link new) (sink.held old.sink.now) (sink.held new.sink.now)

  -- it took turns, at most so many
  pub record TakesTurns (old new : Node C L W) (turns : ℕ) (values : Option (List ℕ)) (result : Result Served ServeError) : Type 0 where
    pub run : ServesObserved core.next core.is_done core.timers (asks_of old) turns (core.state old.core.now) (link.answers old.link.now) values result
        (link_side link old) (record (link_side link new) { lost = 0 }) (sink.held old.sink.now) (sink.held new.sink.now)
    pub took : OnOk result (TookSome core.next (asks_of old) [] (core.state old.core.now) (core.state new.core.now) (sink.held old.sink.now)
        (sink.held new.sink.now))
    pub wrote : WroteText (sink.held old.sink.now) (sink.held new.sink.now)
    pub lost : IfOk result (λ served. min (link.loss_count old.link.now + (served.lost - old.lost)) last_count ≤ link.loss_count new.link.now)

-- how many turns they were, and whether its core is done
pub record CountsTurns {C L W : Type 0} (core : cores.Ghosts C) (new : Node C L W) (turns : ℕ) (result : Result Served ServeError) : Type 0 where
  pub most : IfOk result (λ served. served.turns ≤ turns)
  pub done : IfOk result (λ served. served.done ≡ core.is_done (core.state new.core.now))
  pub spent : IfOk result (λ served. served.done ≡ false → served.turns ≡ turns)
