-- The timers of an actor.
use Rattle.std.proofs.Common.{◌≡◌, ℕ, ◌+◌, ◌≤◌, List, [], ◌∷◌, Bool, true, false, Option, Some, None, Result, Ok, Err, OnOk}
use Rattle.std.proofs.Common.{drop, length, refl, sym, ap, subst, ◌∙◌, add-one}
use Rattle.std.specs.Prelude.{nat_le, slice_get, ⊤}
use Rattle.std.proofs.lemmas.List.{drop_all}
use Rattle.nop_types.specs.Meaning.{Meaning}
use Rattle.nop_types.specs.declared.memory.NoMemory.{NoMemory}
use Rattle.nop_types.specs.declared.input.Tick.{Tick}
use Rattle.nop_types.specs.declared.input.Tick.TheVariants as ticks
use Rattle.nop_types.specs.declared.output.Actor.{Actor}
use Rattle.nop_types.specs.declared.output.Actor.TheVariants as actors
use Rattle.lemmas.proofs.Places.{Splits-at}
use Rattle.schedule_text.specs.declared.event.Event.{Event}
use Rattle.udp_node.specs.declared.address.Address.{Address}
use Rattle.udp_node.specs.declared.firing.Timer.{Timer}
use Rattle.world.specs.Lookups.{takes_op}
use Rattle.world.specs.WorldSteps.{WorldState}
use Rattle.one_box.specs.declared.node.BoxActor as code
use Rattle.one_box.specs.ClusterRun.{Course, BoxActor, take, submit_next, next_of, on_tick, fire_if, fire_due}
use Rattle.one_box.specs.Firing.{submit_if, next_event, tick_event, tick_event_if, timer_event, next_after, take_event}
use Rattle.one_box.specs.Showing.{LinkView, Shows, Reaches, Does, Acts, IsNoJunk}
use Rattle.one_box.specs.Progress.{FiringOn}

module _ {S L : Type 0} (m : Meaning S) (v : LinkView L) (ops : List (List ℕ)) (now : ℕ) where
  pub none_fired : (all : List Timer) (c : Course) (n : BoxActor) (x : code.BoxActor L) → Shows v n x → FiringOn m v ops now all all c n c x
  none_fired all c n x shown = record { node = n; shows = shown; goes = refl }

  -- one timer more
  pub fired : (all rest : List Timer) (t : Timer) (c d e : Course) (n : BoxActor) (y z : code.BoxActor L)
      → FiringOn m v ops now all (t ∷ rest) c n d y → Does v (λ a k. fire_if m ops (nat_le t.due now) a k t.tick) d y e z
      → FiringOn m v ops now all rest c n e z
  unfolding fire_due
  fired all rest t c d e n y z f does =
      let p : Course × BoxActor = fire_if m ops (nat_le t.due now) d f.node t.tick in
      let r : Reaches v p e z = does f.node f.shows in
      record { node = p.1; shows = r.node; goes = ap (λ (a : Course). fire_due m ops now rest a p.1) (sym r.course) ∙ f.goes }

  -- all of them
  pub all_fired : (all : List Timer) (c d : Course) (n : BoxActor) (y : code.BoxActor L) → FiringOn m v ops now all [] c n d y
      → Reaches v (fire_due m ops now all c n) d y
  unfolding fire_due
  all_fired all c d n y f =
      let ends : (d, f.node) ≡ fire_due m ops now all c n = f.goes in
      record {
        course = sym (ap (λ (p : Course × BoxActor). p.0) ends);
        node = subst (λ (p : Course × BoxActor). Shows v p.1 y) ends f.shows;
      }

  -- one timer more, by its place
  pub fired_at : (all : List Timer) (i : ℕ) (t : Timer) (c d e : Course) (n : BoxActor) (y z : code.BoxActor L) → slice_get all i ≡ Some t
      → FiringOn m v ops now all (drop i all) c n d y → Does v (λ a k. fire_if m ops (nat_le t.due now) a k t.tick) d y e z
      → FiringOn m v ops now all (drop (i + 1) all) c n e z
  fired_at all i t c d e n y z there f does =
      let next : drop i all ≡ t ∷ drop (i + 1) all =
      (Splits-at all i t there).back ∙ ap (λ (j : ℕ). t ∷ drop j all) (sym (add-one i)) in
      fired all (drop (i + 1) all) t c d e n y z (subst (λ (ts : List Timer). FiringOn m v ops now all ts c n d y) next f) does

  -- all, where so many are no fewer
  pub all_fired_at : (all : List Timer) (i : ℕ) (c d : Course) (n : BoxActor) (y : code.BoxActor L) → length all ≤ i → all ≡ n.timers
      → FiringOn m v ops now all (drop i all) c n d y → Reaches v (fire_due m ops now n.timers c n) d y
  all_fired_at all i c d n y past same f =
      subst (λ (ts : List Timer). Reaches v (fire_due m ops now ts c n) d y) same
      (all_fired all c d n y (subst (λ (ts : List Timer). FiringOn m v ops now all ts c n d y) (drop_all i all past) f))

-- ---- one timer

module _ {S : Type 0} (m : Meaning S) (ops : List (List ℕ)) (c : Course) (n : BoxActor) where
  submit_by : (b : Bool) (client : ℕ) (op : Option (List ℕ)) → submit_next m b client op c n ≡ take_event m (submit_if b client op) c n
  unfolding submit_next
  submit_by true client (Some op) = refl
  submit_by true client None = refl
  submit_by false client op = refl

  next_by : (a : Actor) → next_of m ops a c n ≡ take_event m (next_event c.world a (slice_get ops n.next_op)) c n
  unfolding next_of
  next_by (actors.Client i) = submit_by (takes_op c.world i) i (slice_get ops n.next_op)
  next_by _ = refl

  tick_by : (t : Tick) → on_tick m ops c n t ≡ take_event m (tick_event c.world n.at.own (slice_get ops n.next_op) t) c n
  unfolding on_tick
  tick_by ticks.Next = next_by n.at.own
  tick_by _ = refl

  fire_by : (b : Bool) (t : Tick) → fire_if m ops b c n t ≡ take_event m (tick_event_if b c.world n.at.own (slice_get ops n.next_op) t) c n
  unfolding fire_if
  fire_by true t = tick_by t
  fire_by false t = refl

abbrev HasNoJunk : Option Event → Type 0
HasNoJunk None = ⊤
HasNoJunk (Some e) = IsNoJunk e

submit_free : (b : Bool) (client : ℕ) (op : Option (List ℕ)) → HasNoJunk (submit_if b client op)
submit_free true client (Some op) = tt
submit_free true client None = tt
submit_free false client op = tt

next_free : (w : WorldState) (a : Actor) (op : Option (List ℕ)) → HasNoJunk (next_event w a op)
next_free w (actors.Client i) op = submit_free (takes_op w i) i op
next_free w _ op = tt

tick_free : (w : WorldState) (a : Actor) (op : Option (List ℕ)) (t : Tick) → HasNoJunk (tick_event w a op t)
tick_free w a op ticks.Next = next_free w a op
tick_free w a op _ = tt

free_if : (b : Bool) (w : WorldState) (a : Actor) (op : Option (List ℕ)) (t : Tick) → HasNoJunk (tick_event_if b w a op t)
free_if true w a op t = tick_free w a op t
free_if false w a op t = tt

-- no timer delivers junk
pub timer_free : (w : WorldState) (a : Actor) (op : Option (List ℕ)) (t : Timer) (now : ℕ) (o : Option Event) (e : Event)
    → o ≡ timer_event w a op t now → o ≡ Some e → IsNoJunk e
timer_free w a op t now o e is some = subst HasNoJunk (sym is ∙ some) (free_if (nat_le t.due now) w a op t.tick)

module _ {S L : Type 0} (m : Meaning S) (v : LinkView L) (ops : List (List ℕ)) (c d : Course) (x y : code.BoxActor L) (t : Timer) (now : ℕ)
    (op : Option (List ℕ)) (found : op ≡ slice_get ops x.next_op) (o : Option Event) (is : o ≡ timer_event c.world x.at.own op t now) where
  -- what fires is the event that was found
  is_fired : (n : BoxActor) → Shows v n x → fire_if m ops (nat_le t.due now) c n t.tick ≡ take_event m o c n
  is_fired n shown =
      fire_by m ops c n (nat_le t.due now) t.tick
      ∙ ap (λ (a : Address). take_event m (timer_event c.world a.own (slice_get ops n.next_op) t now) c n) (sym shown.at)
      ∙ ap (λ (k : ℕ). take_event m (timer_event c.world x.at.own (slice_get ops k) t now) c n) (sym shown.next_op)
      ∙ ap (λ (p : Option (List ℕ)). take_event m (timer_event c.world x.at.own p t now) c n) (sym found)
      ∙ ap (λ (p : Option Event). take_event m p c n) (sym is)

  pub fired_none : o ≡ None → Acts v m (λ a n. fire_if m ops (nat_le t.due now) a n t.tick) c x c x
  fired_none none = record {
    does = λ n shown.
        let here : Reaches v (take_event m None c n) c x = record { course = refl; node = shown } in
        subst (λ (p : Course × BoxActor). Reaches v p c x) (sym (is_fired n shown ∙ ap (λ (p : Option Event). take_event m p c n) none)) here;
    goes = λ config led. led;
    lost = λ fits. fits;
  }

  pub fired_some : (e : Event) (place : ℕ) (r : Result (Unit {0}) NoMemory) → o ≡ Some e
      → place ≡ next_after e x.next_op c.world.config.clients
      → OnOk r (Acts v m (λ a n. take m a n e) c (record x { next_op = place }) d y)
      → OnOk r (Acts v m (λ a n. fire_if m ops (nat_le t.due now) a n t.tick) c x d y)
  fired_some e place (Err error) some next acts = tt
  fired_some e place (Ok u) some next acts = record {
    does = λ n shown.
        let clients : ℕ = c.world.config.clients in
        let k : BoxActor = record n { next_op = next_after e n.next_op clients } in
        let shows : Shows v k (record x { next_op = place }) = record {
          at = shown.at;
          next_op = next ∙ ap (λ (i : ℕ). next_after e i clients) shown.next_op;
          timers = shown.timers;
          answers = shown.answers;
          sends = shown.sends;
        } in
        let here : Reaches v (take_event m (Some e) c n) d y = acts.does k shows in
        subst (λ (p : Course × BoxActor). Reaches v p d y) (sym (is_fired n shown ∙ ap (λ (p : Option Event). take_event m p c n) some)) here;
    goes = acts.goes;
    lost = acts.lost;
  }
