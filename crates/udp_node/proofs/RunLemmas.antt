-- Turns of a run, one after another.
use Rattle.std.proofs.Common.{◌≡◌, ℕ, zero, suc, ◌+◌, ◌-◌, ◌≤◌, ◌<◌, min, max, List, [], ◌∷◌, ◌++◌, map, drop, Bool, true, false, Option}
use Rattle.std.proofs.Common.{Some, None, Result, Ok, Err, refl, ap, sym, ◌∙◌, append_assoc, append-nil, arith}
use Rattle.nop_types.specs.Given.{Given}
use Rattle.nop_types.specs.declared.input.Tick.{Tick}
use Rattle.nop_types.specs.declared.output.Out.{Out}
use Rattle.outside.specs.Clocks.{ReadsTime, next_value, later_values}
use Rattle.outside.specs.Links.{next_poll}
use Rattle.outside.specs.declared.errors.DeviceError.{DeviceError}
use Rattle.outside.specs.declared.errors.DeviceError.TheVariants as writes
use Rattle.outside.specs.declared.link.PollAnswer.{PollAnswer}
use Rattle.outside.specs.declared.link.PollAnswer.TheVariants.{Failure}
use Rattle.outside.specs.Causes.{next_count}
use Rattle.outside.specs.declared.link.LinkCall.{LinkCall}
use Rattle.udp_node.specs.declared.errors.ServeError.{ServeError}
use Rattle.udp_node.specs.declared.errors.ServeError.TheVariants.{LinkFault, WriteFault, NoMemory}
use Rattle.udp_node.specs.declared.firing.Timer.{Timer}
use Rattle.udp_node.specs.Effects.{Effect, Act, Step, effects_by, Done, Stops}
use Rattle.udp_node.specs.Folding.{folded, taking, Ran}
use Rattle.udp_node.specs.NodeRun.{NodeRun, turns_from, node_run, turn_then, after_turn, with_acts, ServesRun, ServesObserved, ServesAfter}
use Rattle.udp_node.specs.NodeRun.{ServedRun, Broke}
use Rattle.udp_node.specs.Progress.{after_turns, Going, GoingOn}
use Rattle.udp_node.specs.Sends.{LinkSide, Sends, Try, Made, Lost, Found, losses_after, failures, last_count}
use Rattle.udp_node.specs.Timing.{armed, rearmed, is_failure, Takes, Gives}
use Rattle.udp_node.specs.Turns.{Turned, PollFailed, TurnEnds, error_of, turn_of}
use Rattle.udp_node.specs.declared.serving.Served.{Served}
use Rattle.outside.specs.Observed.{Stays}
use Rattle.udp_node.proofs.EffectLemmas.{acts_done, nothing_done, acts_stop, acts_stop_more, Appends_none}
use Rattle.udp_node.proofs.SendLemmas.{no_sends}

-- ---- losses

pub counted_most : (n : ℕ) (ts : List Try) → losses_after n ts ≤ n + failures ts
counted_most n [] = omega arith
counted_most n (Made c ∷ ts) = let rest = counted_most n ts in omega (arith, rest)
counted_most n (Lost port bytes ∷ ts) = let rest = counted_most (next_count n) ts in omega (arith, rest)
counted_most n (Found k ∷ ts) = let rest = counted_most (min (n + k) last_count) ts in omega (arith, rest)

pub counted_least : (n : ℕ) (ts : List Try) → min (n + failures ts) last_count ≤ losses_after n ts
counted_least n [] = omega arith
counted_least n (Made c ∷ ts) = let rest = counted_least n ts in omega (arith, rest)
counted_least n (Lost port bytes ∷ ts) = let rest = counted_least (next_count n) ts in omega (arith, rest)
counted_least n (Found k ∷ ts) = let rest = counted_least (min (n + k) last_count) ts in omega (arith, rest)

pub lost_by : (first before l m n k f : ℕ) → min (first + (l - before)) last_count ≤ m → k ≤ l + f
    → min (m + f) last_count ≤ n → min (first + (k - before)) last_count ≤ n
lost_by first before l m n k f one two three = omega (arith, one, two, three)

pub lost_more : (first before : ℕ) (cs : List LinkCall) (a b : LinkSide) → min (first + (a.lost - before)) last_count ≤ a.losses
    → Sends cs a b → min (first + (b.lost - before)) last_count ≤ b.losses
lost_more first before cs a b one sends =
    let most : b.lost ≤ a.lost + failures sends.tries = rw sends.lost (counted_most a.lost sends.tries) in
    let least : min (a.losses + failures sends.tries) last_count ≤ b.losses = rw sends.losses (counted_least a.losses sends.tries) in
    lost_by first before a.lost a.losses b.losses b.lost (failures sends.tries) one most least

pub lost_joined : (l m n k lost : ℕ) → min (l + (k - 0)) last_count ≤ m → min (m + (lost - k)) last_count ≤ n
    → min (l + lost) last_count ≤ n
lost_joined l m n k lost one two = omega (arith, one, two)

-- up to the greatest count of 64 bits, the count rises by the number of datagrams that could not be sent
pub counted_is : (n : ℕ) (ts : List Try) → n ≤ last_count → losses_after n ts ≡ min (n + failures ts) last_count
counted_is n [] most = omega (arith, most)
counted_is n (Made c ∷ ts) most = let rest = counted_is n ts most in omega (arith, rest)
counted_is n (Lost port bytes ∷ ts) most =
    let rest = counted_is (next_count n) ts (omega arith) in omega (arith, rest)
counted_is n (Found k ∷ ts) most =
    let rest = counted_is (min (n + k) last_count) ts (omega arith) in omega (arith, rest)

-- ---- runs

module _ {S : Type 0} (next : S → Given → S × List Out) (is_done : S → Bool) (asks : Step → List Effect) where
  -- the state after a turn, and the acts of it
  abbrev after : S → ℕ → List Timer → PollAnswer → S × List Act
  after s now ts answer = turn_of next s now ts answer

  abbrev rest_of : ℕ → S → List Timer → ℕ → List PollAnswer → List ℕ → NodeRun
  rest_of k s ts now answers values =
      turns_from next is_done k (after s now ts (next_poll answers)).0 (map (rearmed now) ts) (max now (next_value values))
      (drop 1 answers) (later_values values)

  one_turn : (left : ℕ) (s : S) (ts : List Timer) (now : ℕ) (answers : List PollAnswer) (values : List ℕ) → 0 < left
      → turns_from next is_done left s ts now answers values ≡ turn_then (is_failure (next_poll answers))
      (is_done (after s now ts (next_poll answers)).0) (after s now ts (next_poll answers)).1 (rest_of (left - 1) s ts now answers values)
  one_turn zero s ts now answers values some = absurd (omega (arith, some))
  one_turn (suc k) s ts now answers values some =
      let e : suc k - 1 ≡ k = omega arith in
      rw e refl

  pub going_start : (timers : List (Tick × ℕ)) (turns : ℕ) (s : S) (o : Option (List PollAnswer)) (v w : Option (List ℕ)) (ts : List Timer)
      (now : ℕ) (a : LinkSide) (h : Option (List ℕ)) → ReadsTime v w now → ts ≡ map (armed now) timers
      → Going next is_done asks timers turns s o v 0 s ts now o w a a h h
  going_start timers turns s None v w ts now a h time first = tt
  going_start timers turns s (Some answers) None w ts now a h time first = tt
  going_start timers turns s (Some answers) (Some values) w ts now a h time first =
      let e : turns - 0 ≡ turns = omega arith in
      record {
        answers = answers;
        values = later_values values;
        answers_observed = refl;
        values_observed = time.1;
        so_far = [];
        is = rw (e, first, time.0) (zero_turns (node_run next is_done timers turns s answers values));
        done = record { sends = no_sends a; lines = Appends_none h };
      }
    where
      zero_turns : (r : NodeRun) → r ≡ after_turns [] 0 r
      zero_turns r = let e : 0 + r.turns ≡ r.turns = omega arith in rw e refl

  combine : (outs os : List Act) (k : ℕ) (r : NodeRun) → after_turns outs k (after_turn os r) ≡ after_turns (outs ++ os) (k + 1) r
  combine outs os k r =
      let e : k + (1 + r.turns) ≡ (k + 1) + r.turns = omega arith in
      rw (append_assoc outs os r.acts, e) refl

  this_turn : (r : NodeRun) (outs : List Act) (taken left : ℕ) (s : S) (ts : List Timer) (now : ℕ) (answers : List PollAnswer)
      (values : List ℕ) → 0 < left → r ≡ after_turns outs taken (turns_from next is_done left s ts now answers values)
      → r ≡ after_turns outs taken
      (turn_then (is_failure (next_poll answers)) (is_done (after s now ts (next_poll answers)).0) (after s now ts (next_poll answers)).1
      (rest_of (left - 1) s ts now answers values))
  this_turn r outs taken left s ts now answers values some is =
      is ∙ ap (after_turns outs taken) (one_turn left s ts now answers values some)

  turn_step : (r : NodeRun) (outs : List Act) (taken left : ℕ) (s : S) (ts : List Timer) (now : ℕ) (answers : List PollAnswer)
      (values : List ℕ) → 0 < left → r ≡ after_turns outs taken (turns_from next is_done left s ts now answers values)
      → is_failure (next_poll answers) ≡ false → is_done (after s now ts (next_poll answers)).0 ≡ false
      → r ≡ after_turns (outs ++ (after s now ts (next_poll answers)).1) (taken + 1) (rest_of (left - 1) s ts now answers values)
  turn_step r outs taken left s ts now answers values some is works goes =
      let one = rw (works, goes) at (this_turn r outs taken left s ts now answers values some is) in
      one ∙ combine outs (after s now ts (next_poll answers)).1 taken (rest_of (left - 1) s ts now answers values)

  turn_last : (r : NodeRun) (outs : List Act) (taken left : ℕ) (s : S) (ts : List Timer) (now : ℕ) (answers : List PollAnswer)
      (values : List ℕ) → 0 < left → r ≡ after_turns outs taken (turns_from next is_done left s ts now answers values)
      → is_failure (next_poll answers) ≡ false → is_done (after s now ts (next_poll answers)).0 ≡ true → r ≡ record {
        acts = outs ++ (after s now ts (next_poll answers)).1;
        turns = taken + 1;
        done = true;
        broken = false;
      }
  turn_last r outs taken left s ts now answers values some is works ends =
      rw (works, ends) at (this_turn r outs taken left s ts now answers values some is)

  -- what is done of a turn is in the run
  outs_prefix : (failed done : Bool) (os : List Act) (r : NodeRun) → (more : List Act) × ((turn_then failed done os r).acts ≡ os ++ more)
  outs_prefix true done os r = ([], sym (append-nil os))
  outs_prefix false true os r = ([], sym (append-nil os))
  outs_prefix false false os r = (r.acts, refl)

  done_more : (outs os : List Act) (a b c : LinkSide) (h i j : Option (List ℕ)) → Done (effects_by asks outs) a b h i
      → Done (effects_by asks os) b c i j → Done (effects_by asks (outs ++ os)) a c h j
  done_more outs os a b c h i j one two = acts_done asks outs os a b c h i j one two

  going_on : (r : NodeRun) (turns taken : ℕ) (s t : S) (ts us : List Timer) (now then time : ℕ) (o later : Option (List PollAnswer))
      (v w : Option (List ℕ)) (a b c : LinkSide) (h i j : Option (List ℕ))
      → GoingOn next is_done asks r taken (turns - taken) s ts now o v a b h i → taken < turns → Turned next asks s t now ts us o later b c i j
      → is_done t ≡ false → ReadsTime v w time → then ≡ max now time
      → GoingOn next is_done asks r (taken + 1) (turns - (taken + 1)) t us then later w a c h j
  going_on r turns taken s t ts us now then time o later v w a b c h i j g within turned goes clock greatest =
      let some : 0 < turns - taken = omega (arith, within) in
      let left : turns - (taken + 1) ≡ turns - taken - 1 = omega (arith, within) in
      let took : Takes (Some g.answers) later turned.answer = rw g.answers_observed at turned.taken in
      let observed : ReadsTime (Some g.values) w time = rw g.values_observed at clock in
      let state : t ≡ (after s now ts (next_poll g.answers)).0 = rw took.0 at turned.state in
      let done : Done (effects_by asks (after s now ts (next_poll g.answers)).1) b c i j = rw took.0 at turned.done in
      let works : is_failure (next_poll g.answers) ≡ false = rw took.0 at turned.works in
      let open_ : is_done (after s now ts (next_poll g.answers)).0 ≡ false = rw state at goes in
      record {
        answers = drop 1 g.answers;
        values = later_values g.values;
        answers_observed = took.1;
        values_observed = observed.1;
        so_far = g.so_far ++ (after s now ts (next_poll g.answers)).1;
        is =
            rw (state, turned.timers, greatest, observed.0, left)
            (turn_step r g.so_far taken (turns - taken) s ts now g.answers g.values some g.is works open_);
        done = done_more g.so_far (after s now ts (next_poll g.answers)).1 a b c h i j g.done done;
      }

  pub going_turn : (timers : List (Tick × ℕ)) (turns : ℕ) (s0 : S) (o0 : Option (List PollAnswer)) (v0 : Option (List ℕ)) (taken : ℕ)
      (s t : S) (ts us : List Timer) (now then time : ℕ) (o later : Option (List PollAnswer)) (v w : Option (List ℕ)) (a b c : LinkSide)
      (h i j : Option (List ℕ)) → Going next is_done asks timers turns s0 o0 v0 taken s ts now o v a b h i → taken < turns
      → Turned next asks s t now ts us o later b c i j → is_done t ≡ false → ReadsTime v w time → then ≡ max now time
      → Going next is_done asks timers turns s0 o0 v0 (taken + 1) t us then later w a c h j
  going_turn timers turns s0 None v0 taken s t ts us now then time o later v w a b c h i j g within turned goes clock greatest = tt
  going_turn timers turns s0 (Some x) None taken s t ts us now then time o later v w a b c h i j g within turned goes clock greatest = tt
  going_turn timers turns s0 (Some x) (Some y) taken s t ts us now then time o later v w a b c h i j g within turned goes clock greatest =
      going_on
      (node_run next is_done timers turns s0 x y) turns taken s t ts us now then time o later v w a b c h i j g within turned goes
      clock greatest

  -- ---- ends

  served_run : (r : NodeRun) (outs : List Act) (n : ℕ) (d : Bool) (a b c : LinkSide) (h i : Option (List ℕ))
      → r ≡ record {
        acts = outs;
        turns = n;
        done = d;
        broken = false;
      } → Done (effects_by asks outs) a c h i → record b {
        lost =
            c.lost;
      } ≡ c → ServedRun asks r (record { turns = n; lost = c.lost; done = d }) a (record b { lost = c.lost }) h i
  served_run r outs n d a b c h i e done same = record {
    turns = sym (ap (λ x. x.turns) e);
    done = sym (ap (λ x. x.done) e);
    works = ap (λ x. x.broken) e;
    effects = rw (e, same) done;
  }

  served_done : (r : NodeRun) (turns taken : ℕ) (s t : S) (ts us : List Timer) (now : ℕ) (o later : Option (List PollAnswer))
      (v : Option (List ℕ)) (a b c d : LinkSide) (h i j : Option (List ℕ))
      → GoingOn next is_done asks r taken (turns - taken) s ts now o v a b h i → taken < turns → Turned next asks s t now ts us o later b c i j
      → is_done t ≡ true → record d { lost = c.lost } ≡ c
      → ServedRun asks r (record { turns = taken + 1; lost = c.lost; done = true }) a (record d { lost = c.lost }) h j
  served_done r turns taken s t ts us now o later v a b c d h i j g within turned ends same =
      let some : 0 < turns - taken = omega (arith, within) in
      let took : Takes (Some g.answers) later turned.answer = rw g.answers_observed at turned.taken in
      let state : t ≡ (after s now ts (next_poll g.answers)).0 = rw took.0 at turned.state in
      let done : Done (effects_by asks (after s now ts (next_poll g.answers)).1) b c i j = rw took.0 at turned.done in
      let works : is_failure (next_poll g.answers) ≡ false = rw took.0 at turned.works in
      let closed : is_done (after s now ts (next_poll g.answers)).0 ≡ true = rw state at ends in
      served_run r (g.so_far ++ (after s now ts (next_poll g.answers)).1) (taken + 1) true a d c h j
      (turn_last r g.so_far taken (turns - taken) s ts now g.answers g.values some g.is works closed)
      (done_more g.so_far (after s now ts (next_poll g.answers)).1 a b c h i j g.done done) same

  pub serves_done : (timers : List (Tick × ℕ)) (turns : ℕ) (s0 : S) (o0 : Option (List PollAnswer)) (v0 : Option (List ℕ)) (taken : ℕ)
      (s t : S) (ts us : List Timer) (now : ℕ) (o later : Option (List PollAnswer)) (v : Option (List ℕ)) (a b c d : LinkSide)
      (h i j : Option (List ℕ)) → Going next is_done asks timers turns s0 o0 v0 taken s ts now o v a b h i → taken < turns
      → Turned next asks s t now ts us o later b c i j → is_done t ≡ true → record d { lost = c.lost } ≡ c
      → ServesObserved next is_done timers asks turns s0 o0 v0 (Ok (record { turns = taken + 1; lost = c.lost; done = true })) a d h j
  serves_done timers turns s0 None v0 taken s t ts us now o later v a b c d h i j g within turned ends same = tt
  serves_done timers turns s0 (Some x) None taken s t ts us now o later v a b c d h i j g within turned ends same = tt
  serves_done timers turns s0 (Some x) (Some y) taken s t ts us now o later v a b c d h i j g within turned ends same =
      served_done (node_run next is_done timers turns s0 x y) turns taken s t ts us now o later v a b c d h i j g within turned ends same

  no_turn : (r : NodeRun) (outs : List Act) (taken left : ℕ) (s : S) (ts : List Timer) (now : ℕ) (answers : List PollAnswer)
      (values : List ℕ) → left ≡ 0 → r ≡ after_turns outs taken (turns_from next is_done left s ts now answers values)
      → r ≡ record { acts = outs; turns = taken; done = is_done s; broken = false }
  no_turn r outs taken left s ts now answers values none is =
      let one : r ≡ after_turns outs taken (record { acts = []; turns = 0; done = is_done s; broken = false }) = rw none at is in
      let e : taken + 0 ≡ taken = omega arith in
      let f : outs ++ [] ≡ outs = append-nil outs in
      rw (e, f) at one

  pub serves_last : (timers : List (Tick × ℕ)) (turns : ℕ) (s0 : S) (o0 : Option (List PollAnswer)) (v0 : Option (List ℕ)) (taken : ℕ)
      (s : S) (ts : List Timer) (now : ℕ) (o : Option (List PollAnswer)) (v : Option (List ℕ)) (a b d : LinkSide) (h i : Option (List ℕ))
      (done : Bool) → Going next is_done asks timers turns s0 o0 v0 taken s ts now o v a b h i → turns ≤ taken → done ≡ is_done s
      → record d { lost = b.lost } ≡ b
      → ServesObserved next is_done timers asks turns s0 o0 v0 (Ok (record { turns = taken; lost = b.lost; done = done })) a d h i
  serves_last timers turns s0 None v0 taken s ts now o v a b d h i done g all is same = tt
  serves_last timers turns s0 (Some x) None taken s ts now o v a b d h i done g all is same = tt
  serves_last timers turns s0 (Some x) (Some y) taken s ts now o v a b d h i done g all is same =
      let none : turns - taken ≡ 0 = omega (arith, all) in
      rw is (served_run (node_run next is_done timers turns s0 x y) g.so_far taken (is_done s) a d b h i
      (no_turn (node_run next is_done timers turns s0 x y) g.so_far taken (turns - taken) s ts now g.answers g.values none g.is) g.done same)

  -- what stops a turn stops the run
  stops_run : (r : NodeRun) (turns taken : ℕ) (s : S) (ts : List Timer) (now : ℕ) (o : Option (List PollAnswer)) (v : Option (List ℕ))
      (e : DeviceError) (a b c : LinkSide) (h i j : Option (List ℕ)) (answer : PollAnswer)
      → GoingOn next is_done asks r taken (turns - taken) s ts now o v a b h i → taken < turns → Gives o answer
      → Stops (effects_by asks (after s now ts answer).1) e b c i j → Stops (effects_by asks r.acts) e a c h j
  stops_run r turns taken s ts now o v e a b c h i j answer g within gives stops =
      let some : 0 < turns - taken = omega (arith, within) in
      let gave : Gives (Some g.answers) answer = rw g.answers_observed at gives in
      let here : Stops (effects_by asks (after s now ts (next_poll g.answers)).1) e b c i j = rw gave at stops in
      let prefix =
      outs_prefix (is_failure (next_poll g.answers)) (is_done (after s now ts (next_poll g.answers)).0)
      (after s now ts (next_poll g.answers)).1 (rest_of (turns - taken - 1) s ts now g.answers g.values) in
      let is : r.acts ≡ g.so_far ++ ((after s now ts (next_poll g.answers)).1 ++ prefix.0) =
      ap (λ x. x.acts) (this_turn r g.so_far taken (turns - taken) s ts now g.answers g.values some g.is) ∙ ap (λ os. g.so_far ++ os) prefix.1 in
      rw is
      (acts_stop asks g.so_far ((after s now ts (next_poll g.answers)).1 ++ prefix.0) e a b c h i j g.done
      (acts_stop_more asks (after s now ts (next_poll g.answers)).1 prefix.0 e b c i j here))

  -- a poll that failed ends the run
  breaks_run : (r : NodeRun) (turns taken : ℕ) (s : S) (ts : List Timer) (now : ℕ) (o : Option (List PollAnswer)) (v : Option (List ℕ))
      (a b c : LinkSide) (h i j : Option (List ℕ)) → GoingOn next is_done asks r taken (turns - taken) s ts now o v a b h i → taken < turns
      → PollFailed next asks s now ts o b c i j → Broke asks r a c h j
  breaks_run r turns taken s ts now o v a b c h i j g within failed =
      let some : 0 < turns - taken = omega (arith, within) in
      let gave : Failure ≡ next_poll g.answers = rw g.answers_observed at failed.gives in
      let one = this_turn r g.so_far taken (turns - taken) s ts now g.answers g.values some g.is in
      let is : r ≡ after_turns g.so_far taken
      (turn_then true (is_done (after s now ts Failure).0) (after s now ts Failure).1
      (rest_of (turns - taken - 1) s ts now g.answers g.values)) = rw (← gave) at one in
      let done : Done (effects_by asks (after s now ts Failure).1) b c i j = failed.done in
      record {
        broken = ap (λ x. x.broken) is;
        effects = rw is (done_more g.so_far (after s now ts Failure).1 a b c h i j g.done done);
      }

  pub serves_err : (timers : List (Tick × ℕ)) (turns : ℕ) (s0 : S) (o0 : Option (List PollAnswer)) (v0 : Option (List ℕ)) (taken : ℕ)
      (s t : S) (ts us : List Timer) (now : ℕ) (o later : Option (List PollAnswer)) (v : Option (List ℕ)) (e : ServeError)
      (a b c d : LinkSide) (h i j : Option (List ℕ)) → Going next is_done asks timers turns s0 o0 v0 taken s ts now o v a b h i
      → taken < turns → TurnEnds next asks {T = Unit {0}} s t now ts us o later (Err e) b c i j → record d { lost = c.lost } ≡ c
      → ServesObserved next is_done timers asks turns s0 o0 v0 (Err e) a d h j
  serves_err timers turns s0 None v0 taken s t ts us now o later v e a b c d h i j g within ends same = tt
  serves_err timers turns s0 (Some x) None taken s t ts us now o later v e a b c d h i j g within ends same = tt
  serves_err timers turns s0 (Some x) (Some y) taken s t ts us now o later v LinkFault a b c d h i j g within ends same =
      (c.lost, rw same (breaks_run (node_run next is_done timers turns s0 x y) turns taken s ts now o v a b c h i j g within ends))
  serves_err timers turns s0 (Some x) (Some y) taken s t ts us now o later v WriteFault a b c d h i j g within ends same = (
    c.lost,
    rw same
        (stops_run
        (node_run next is_done timers turns s0 x y) turns taken s ts now o v writes.Failed a b c h i j ends.answer g within ends.gives
        ends.stopped),
  )
  serves_err timers turns s0 (Some x) (Some y) taken s t ts us now o later v NoMemory a b c d h i j g within ends same = (
    c.lost,
    rw same
        (stops_run
        (node_run next is_done timers turns s0 x y) turns taken s ts now o v writes.NoMemory a b c h i j ends.answer g within ends.gives
        ends.stopped),
  )

  pub serves_none : (timers : List (Tick × ℕ)) (turns : ℕ) (s0 : S) (o0 : Option (List PollAnswer)) (v0 : Option (List ℕ))
      (a d : LinkSide) (h : Option (List ℕ)) → record d { lost = a.lost } ≡ a
      → ServesObserved next is_done timers asks turns s0 o0 v0 (Err NoMemory) a d h h
  serves_none timers turns s0 None v0 a d h same = tt
  serves_none timers turns s0 (Some x) None a d h same = tt
  serves_none timers turns s0 (Some x) (Some y) a d h same =
      (a.lost, rw same (nothing_done (effects_by asks (node_run next is_done timers turns s0 x y).acts) a h))

  -- ---- after some inputs

  after_run : (os : List Act) (r : NodeRun) (result : Result Served ServeError) (a b d : LinkSide) (h i j : Option (List ℕ))
      → Done (effects_by asks os) a b h i → ServesRun asks r result b d i j → ServesRun asks (with_acts os r) result a d h j
  after_run os r (Ok served) a b d h i j one two = record {
    turns = two.turns;
    done = two.done;
    works = two.works;
    effects = done_more os r.acts a b (record d { lost = served.lost }) h i j one two.effects;
  }
  after_run os r (Err LinkFault) a b d h i j one two = (
    two.0,
    record {
      broken = two.1.broken;
      effects = done_more os r.acts a b (record d { lost = two.0 }) h i j one two.1.effects;
    },
  )
  after_run os r (Err WriteFault) a b d h i j one two = (
    two.0,
    (acts_stop asks os r.acts writes.Failed
        a b (record d { lost = two.0 }) h i j one two.1),
  )
  after_run os r (Err NoMemory) a b d h i j one two = (
    two.0,
    (acts_stop asks os r.acts writes.NoMemory
        a b (record d { lost = two.0 }) h i j one two.1),
  )

  pub serves_after : (first : List Given) (timers : List (Tick × ℕ)) (turns : ℕ) (s t : S)
      (o p : Option (List PollAnswer)) (v : Option (List ℕ)) (result : Result Served ServeError)
      (a b d : LinkSide) (h i j : Option (List ℕ)) → Ran next asks s t first a b h i → Stays o p
      → ServesObserved next is_done timers asks turns t p v result b d i j
      → ServesAfter next is_done first timers asks turns s o v result a d h j
  serves_after first timers turns s t None p v result a b d h i j ran stays serves = tt
  serves_after first timers turns s t (Some x) p None result a b d h i j ran stays serves = tt
  serves_after first timers turns s t (Some x) p (Some y) result a b d h i j ran stays serves =
      let observed : ServesObserved next is_done timers asks turns (folded next s first).0 (Some x) (Some y) result b d i j =
      rw (stays, ran.state) at serves in
      after_run (taking next s first) (node_run next is_done timers turns (folded next s first).0 x y) result
      a b d h i j ran.done observed

  stops_first : (os : List Act) (r : NodeRun) (e : DeviceError) (a b d : LinkSide) (h i : Option (List ℕ))
      → Stops (effects_by asks os) e a b h i → record d { lost = b.lost } ≡ b
      → ServesRun asks (with_acts os r) (Err (error_of e)) a d h i
  stops_first os r writes.Failed a b d h i stops same =
      (b.lost, rw same (acts_stop_more asks os r.acts writes.Failed a b h i stops))
  stops_first os r writes.NoMemory a b d h i stops same =
      (b.lost, rw same (acts_stop_more asks os r.acts writes.NoMemory a b h i stops))

  pub serves_stopped : (first : List Given) (timers : List (Tick × ℕ)) (turns : ℕ) (s : S)
      (o : Option (List PollAnswer)) (v : Option (List ℕ)) (e : DeviceError) (a b d : LinkSide) (h i : Option (List ℕ))
      → Stops (effects_by asks (taking next s first)) e a b h i → record d { lost = b.lost } ≡ b
      → ServesAfter next is_done first timers asks turns s o v (Err (error_of e)) a d h i
  serves_stopped first timers turns s None v e a b d h i stops same = tt
  serves_stopped first timers turns s (Some x) None e a b d h i stops same = tt
  serves_stopped first timers turns s (Some x) (Some y) e a b d h i stops same =
      stops_first (taking next s first) (node_run next is_done timers turns (folded next s first).0 x y) e
      a b d h i stops same
