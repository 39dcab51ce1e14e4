-- A node over calls that follow one another.
use Rattle.std.proofs.Common.{◌≡◌, ℕ, ◌+◌, ◌<◌, List, [], ◌∷◌, ◌++◌, length, get_or, take, Result, Ok, Err, refl, ◌∙◌}
use Rattle.std.specs.List.{flat_map}
use Rattle.nop_types.specs.declared.core_trait.Core as cores
use Rattle.nop_types.specs.declared.output.Out.{Out}
use Rattle.outside.specs.Causes.{CountsFor}
use Rattle.outside.specs.declared.errors.DeviceError.{DeviceError}
use Rattle.outside.specs.declared.errors.DeviceError.TheVariants as devices
use Rattle.outside.specs.declared.link.Link as links
use Rattle.outside.specs.declared.sink.Sink as sinks
use Rattle.udp_node.specs.declared.address.Address.{Address}
use Rattle.udp_node.specs.declared.firing.Timer.{Timer}
use Rattle.udp_node.specs.declared.node.Node.{Node}
use Rattle.udp_node.specs.Effects.{Effect, Carries, Done, Stops}
use Rattle.udp_node.specs.Folding.{Runs}
use Rattle.udp_node.specs.Nodes.{Same, Does, Takes, asks_of, link_side}
use Rattle.udp_node.specs.Timing.{due_ticks}
use Rattle.udp_node.specs.Turns.{error_of}
use Rattle.udp_node.specs.declared.errors.ServeError.{ServeError}
use Rattle.udp_node.specs.declared.errors.ServeError.TheVariants.{LinkFault, WriteFault}
use Rattle.outside.proofs.Counts.{counts_none}
use Rattle.udp_node.proofs.EffectLemmas.{out_done, out_stopped, carries_then, stops_more}
use Rattle.udp_node.proofs.FoldLemmas.{no_timer, timer_ran, timer_stops}
use Rattle.udp_node.proofs.SendLemmas.{unpolled_then}

pub counts_then : {T : Type 0} (before mid now : ℕ) (result : Result T DeviceError)
    → CountsFor {T = Unit {0}} before mid devices.Failed (Ok tt) → CountsFor mid now devices.Failed result
    → CountsFor before now devices.Failed result
counts_then before mid now result one two = let same : mid ≡ before = one.others (λ failed. cc) in rw same at two

-- an error of a write is told by the call that makes it
pub write_reported : {T U : Type 0} (before now : ℕ) (e : DeviceError) (x : ServeError) → x ≡ error_of e
    → CountsFor {T = T} before now devices.Failed (Err e) → CountsFor {T = U} before now WriteFault (Err x)
write_reported before now devices.Failed x is one =
    rw is (record { later = one.later; failed = λ failed. one.failed refl; others = λ never. absurd (never refl) })
write_reported before now devices.NoMemory x is one =
    rw is (record { later = one.later; failed = λ failed. absurd cc; others = λ never. one.others (λ failed. cc) })

-- and it is none of a poll
pub no_poll_reported : {U : Type 0} (before now : ℕ) (e : DeviceError) (x : ServeError) → x ≡ error_of e → now ≡ before
    → CountsFor {T = U} before now LinkFault (Err x)
no_poll_reported before now devices.Failed x is same = rw is (counts_none before now _ same (λ failed. cc))
no_poll_reported before now devices.NoMemory x is same = rw is (counts_none before now _ same (λ failed. cc))

pub same_then : {C L W : Type 0} (link : links.Ghosts L) (x y z : Node C L W) → Same link x y → Same link y z → Same link x z
same_then link x y z one two = record {
  at = two.at ∙ one.at;
  trace = two.trace ∙ one.trace;
  its_core = two.its_core ∙ one.its_core;
  its_link = two.its_link ∙ one.its_link;
  its_sink = two.its_sink ∙ one.its_sink;
  port = two.port ∙ one.port;
}

-- and asks the same of the outside
pub same_asks : {C L W : Type 0} (link : links.Ghosts L) (x y : Node C L W) → Same link x y → asks_of y ≡ asks_of x
same_asks link x y same = rw (same.at, same.trace) refl

module _ {C L W : Type 0} (core : cores.Ghosts C) (link : links.Ghosts L) (sink : sinks.Ghosts W) (x y z : Node C L W) where
  -- ---- outputs in order

  module _ (f : Address → Out → List Effect) where
    pub does_more : (os : List Out) (i : ℕ) (o : Out) → i < length os → o ≡ get_or os i o
        → Does link sink {T = Unit {0}} x y (flat_map (f x.at) (take i os)) (Ok tt)
        → Does link sink {T = Unit {0}} y z (f y.at o) (Ok tt)
        → Does link sink {T = Unit {0}} x z (flat_map (f x.at) (take (i + 1) os)) (Ok tt)
    does_more os i o within is one two =
        let here : Done (f x.at o) (link_side link y) (link_side link z) (sink.held y.sink.now)
        (sink.held z.sink.now) = rw one.same.at at two.carries in
        record {
          idle = two.idle ∙ one.idle;
          carries = out_done (f x.at) os i o _ _ _ _ _ _ within is one.carries here;
          count = counts_then _ _ _ _ one.count two.count;
          same = same_then link _ _ _ one.same two.same;
          unpolled = unpolled_then link _ _ _ one.unpolled two.unpolled;
        }

    pub does_not : (os : List Out) (i : ℕ) (o : Out) (e : DeviceError) → i < length os → o ≡ get_or os i o
        → Does link sink {T = Unit {0}} x y (flat_map (f x.at) (take i os)) (Ok tt)
        → Does link sink {T = Unit {0}} y z (f y.at o) (Err e) → Does link sink {T = Unit {0}} x z (flat_map (f x.at) os) (Err e)
    does_not os i o e within is one two =
        let here : Stops (f x.at o) e (link_side link y) (link_side link z) (sink.held y.sink.now)
        (sink.held z.sink.now) = rw one.same.at at two.carries in
        record {
          idle = two.idle ∙ one.idle;
          carries = out_stopped (f x.at) e os i o _ _ _ _ _ _ within is one.carries here;
          count = counts_then _ _ _ _ one.count two.count;
          same = same_then link _ _ _ one.same two.same;
          unpolled = unpolled_then link _ _ _ one.unpolled two.unpolled;
        }

  -- ---- one thing after another

  pub does_then : {T : Type 0} (es : List Effect) (fs : Address → List Effect) (result : Result T DeviceError)
      → Does link sink {T = Unit {0}} x y es (Ok tt) → Does link sink y z (fs y.at) result → Does link sink x z (es ++ fs x.at) result
  does_then es fs result one two =
      let here : Carries (fs x.at) result (link_side link y) (link_side link z) (sink.held y.sink.now)
      (sink.held z.sink.now) = rw one.same.at at two.carries in
      record {
        idle = two.idle ∙ one.idle;
        carries = carries_then es (fs x.at) result _ _ _ _ _ _ one.carries here;
        count = counts_then _ _ _ _ one.count two.count;
        same = same_then link _ _ _ one.same two.same;
        unpolled = unpolled_then link _ _ _ one.unpolled two.unpolled;
      }

  pub does_less : {T : Type 0} (es fs : List Effect) (e : DeviceError) → Does link sink {T = T} x y es (Err e)
      → Does link sink {T = T} x y (es ++ fs) (Err e)
  does_less es fs e one = record {
    idle = one.idle;
    carries = stops_more es fs e _ _ _ _ one.carries;
    count = one.count;
    same = one.same;
    unpolled = one.unpolled;
  }

  -- ---- timers in order

  takes_by : {T : Type 0} (now : ℕ) (ts us vs : List Timer) (result : Result T DeviceError)
      → Takes core link sink {T = Unit {0}} x y (due_ticks now ts) (Ok tt) → Takes core link sink y z (due_ticks now us) result
      → Runs core.next (asks_of x) (core.state x.core.now) (core.state z.core.now) (due_ticks now vs) result (link_side link x)
      (link_side link z) (sink.held x.sink.now) (sink.held z.sink.now) → Takes core link sink x z (due_ticks now vs) result
  takes_by now ts us vs result one two runs = record {
    runs = runs;
    count = counts_then _ _ _ _ one.count two.count;
    same = same_then link _ _ _ one.same two.same;
    unpolled = unpolled_then link _ _ _ one.unpolled two.unpolled;
  }

  pub takes_more : (now : ℕ) (ts : List Timer) (k : ℕ) → k < length ts
      → Takes core link sink {T = Unit {0}} x y (due_ticks now (take k ts)) (Ok tt)
      → Takes core link sink {T = Unit {0}} y z (due_ticks now (get_or ts k no_timer ∷ [])) (Ok tt)
      → Takes core link sink {T = Unit {0}} x z (due_ticks now (take (k + 1) ts)) (Ok tt)
  takes_more now ts k within one two =
      takes_by now (take k ts) (get_or ts k no_timer ∷ []) (take (k + 1) ts) (Ok tt) one two
      (timer_ran core.next (asks_of x) now ts k _ _ _ _ _ _ _ _ _ within one.runs (rw (one.same.at, one.same.trace) at two.runs))

  pub takes_not : (now : ℕ) (ts : List Timer) (k : ℕ) (e : DeviceError) → k < length ts
      → Takes core link sink {T = Unit {0}} x y (due_ticks now (take k ts)) (Ok tt)
      → Takes core link sink {T = Unit {0}} y z (due_ticks now (get_or ts k no_timer ∷ [])) (Err e)
      → Takes core link sink {T = Unit {0}} x z (due_ticks now ts) (Err e)
  takes_not now ts k e within one two =
      takes_by now (take k ts) (get_or ts k no_timer ∷ []) ts (Err e) one two
      (timer_stops core.next (asks_of x) e now ts k _ _ _ _ _ _ _ _ within one.runs (rw (one.same.at, one.same.trace) at two.runs))
