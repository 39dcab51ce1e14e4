-- The ends of a turn.
use Rattle.std.proofs.Common.{◌≡◌, ℕ, List, [], ◌∷◌, ◌++◌, map, drop, Option, Some, None, Result, Ok, Err, refl, ap, sym, subst}
use Rattle.nop_types.specs.Given.{Given, Packet}
use Rattle.nop_types.specs.declared.output.Out.{Out}
use Rattle.outside.specs.Links.{next_poll, poll_result, Polls}
use Rattle.outside.specs.Observed.{Stays}
use Rattle.outside.specs.declared.errors.DeviceError.{DeviceError}
use Rattle.outside.specs.declared.errors.DeviceError.TheVariants as writes
use Rattle.outside.specs.declared.link.LinkCall.TheVariants.{Polled}
use Rattle.outside.specs.declared.link.PollAnswer.{PollAnswer}
use Rattle.outside.specs.declared.link.PollAnswer.TheVariants.{Received, Nothing, Failure}
use Rattle.udp_node.specs.declared.errors.ServeError.{ServeError}
use Rattle.udp_node.specs.declared.firing.Timer.{Timer}
use Rattle.udp_node.specs.Effects.{Effect, Step, Polling, effects_by, Done, Stops}
use Rattle.udp_node.specs.Folding.{taking, Ran}
use Rattle.udp_node.specs.Sends.{LinkSide, Sends}
use Rattle.udp_node.specs.Timing.{rearmed, due_ticks, Gives, Takes}
use Rattle.udp_node.specs.Turns.{Turned, PollFailed, TurnStopped, TurnEnds, error_of, ticked, polled}
use Rattle.udp_node.proofs.EffectLemmas.{nothing_done, acts_done, acts_stop, acts_stop_more, acts_stopped, polled_done, done_quiet}

-- some answer comes next
abbrev next_answer : Option (List PollAnswer) → PollAnswer
next_answer None = Nothing
next_answer (Some answers) = next_poll answers

gives_next : (o : Option (List PollAnswer)) → Gives o (next_answer o)
gives_next None = tt
gives_next (Some answers) = refl

-- what a poll says of the answer
abbrev pub answer_of : Result (Option (List ℕ)) DeviceError → PollAnswer
answer_of (Ok None) = Nothing
answer_of (Ok (Some d)) = Received d
answer_of (Err e) = Failure

answer_is : (p : PollAnswer) (d : Option (List ℕ)) → Ok d ≡ poll_result p → p ≡ answer_of (Ok d)
answer_is (Received x) d is = sym (ap answer_of is)
answer_is _ d is = sym (ap answer_of is)

pub poll_taken : (o mid later : Option (List PollAnswer)) (d : Option (List ℕ)) → Stays o mid → Polls mid later (Ok d)
    → Takes o later (answer_of (Ok d))
poll_taken None mid later d stays answers-are = tt
poll_taken (Some answers) mid later d stays answers-are =
    let p : Polls (Some answers) later (Ok d) = rw stays at answers-are in
    (sym (answer_is (next_poll answers) d p.0), p.1)

failure_is : (p : PollAnswer) → Err writes.Failed ≡ poll_result p → Failure ≡ p
failure_is (Received x) is = ap answer_of is
failure_is Nothing is = ap answer_of is
failure_is Failure is = refl

pub poll_failed : (o mid later : Option (List PollAnswer)) → Stays o mid → Polls mid later (Err writes.Failed) → Gives o Failure
poll_failed None mid later stays answers-are = tt
poll_failed (Some answers) mid later stays answers-are =
    let p : Polls (Some answers) later (Err writes.Failed) = rw stays at answers-are in
    failure_is (next_poll answers) p.0

takes_gives : (o later : Option (List PollAnswer)) (p : PollAnswer) → Takes o later p → Gives o p
takes_gives None later p taken = tt
takes_gives (Some answers) later p taken = taken.0

takes_stays : (o mid later : Option (List PollAnswer)) (p : PollAnswer) → Takes o mid p → Stays mid later → Takes o later p
takes_stays None mid later p taken stays = tt
takes_stays (Some answers) mid later p taken stays =
    let s : Stays (Some (drop 1 answers)) later = rw taken.1 at stays in
    (taken.0, s)

-- the same turn, what a step asks of the outside called by another name
pub turn_at : {S T : Type 0} (next : S → Given → S × List Out) (p q : Step → List Effect) (s t : S) (now : ℕ) (ts us : List Timer)
    (o later : Option (List PollAnswer)) (result : Result T ServeError) (a b : LinkSide) (h i : Option (List ℕ)) → p ≡ q
    → TurnEnds next p s t now ts us o later result a b h i → TurnEnds next q s t now ts us o later result a b h i
turn_at next p q s t now ts us o later result a b h i same ends =
    subst (λ (asks : Step → List Effect). TurnEnds next asks s t now ts us o later result a b h i) same ends

module _ {S : Type 0} (next : S → Given → S × List Out) (asks : Step → List Effect) where
  pub stopped_firing : (s t : S) (now : ℕ) (ts us : List Timer) (o later : Option (List PollAnswer)) (e : DeviceError) (a b : LinkSide)
      (h i : Option (List ℕ)) → Stops (effects_by asks (taking next s (due_ticks now ts))) e a b h i
      → TurnEnds next asks {T = Unit {0}} s t now ts us o later (Err (error_of e)) a b h i
  stopped_firing s t now ts us o later writes.Failed a b h i one = record {
    answer = next_answer o;
    gives = gives_next o;
    stopped = acts_stop_more asks (ticked next s now ts).1 (polled next (ticked next s now ts).0 (next_answer o)).1 writes.Failed a b h i one;
  }
  stopped_firing s t now ts us o later writes.NoMemory a b h i one = record {
    answer = next_answer o;
    gives = gives_next o;
    stopped = acts_stop_more asks (ticked next s now ts).1 (polled next (ticked next s now ts).0 (next_answer o)).1 writes.NoMemory a b h i one;
  }

  -- the poll, and what the packet gives
  packet_done : (s t : S) (d : List ℕ) (a b c : LinkSide) (h i : Option (List ℕ)) → Sends (Polled ∷ []) a b
      → Ran next asks s t (Packet d ∷ []) b c h i → Done (effects_by asks (polled next s (Received d)).1) a c h i
  packet_done s t d a b c h i poll two =
      acts_done asks (Polling ∷ []) (taking next s (Packet d ∷ [])) a b c h h i (polled_done a b h poll) two.done

  packet_stopped : (s : S) (d : List ℕ) (e : DeviceError) (a b c : LinkSide) (h i : Option (List ℕ)) → Sends (Polled ∷ []) a b
      → Stops (effects_by asks (taking next s (Packet d ∷ []))) e b c h i → Stops (effects_by asks (polled next s (Received d)).1) e a c h i
  packet_stopped s d e a b c h i poll two =
      acts_stop asks (Polling ∷ []) (taking next s (Packet d ∷ [])) e a b c h h i (polled_done a b h poll) two

  -- no datagram came
  pub silent_turn : (s t : S) (now : ℕ) (ts us : List Timer) (o mid later : Option (List PollAnswer)) (a b c : LinkSide)
      (h i : Option (List ℕ)) → Ran next asks s t (due_ticks now ts) a b h i → Stays o mid → Polls mid later (Ok None)
      → Sends (Polled ∷ []) b c → us ≡ map (rearmed now) ts → Turned next asks s t now ts us o later a c h i
  silent_turn s t now ts us o mid later a b c h i ran stays answer poll timers = record {
    answer = Nothing;
    taken = poll_taken o mid later None stays answer;
    works = refl;
    timers = timers;
    state = ran.state;
    done = acts_done asks (ticked next s now ts).1 (Polling ∷ []) a b c h i i ran.done (polled_done b c i poll);
  }

  -- a datagram came
  pub packet_turn : (s t u : S) (now : ℕ) (ts us : List Timer) (o mid later last : Option (List PollAnswer)) (d shown : List ℕ)
      (a b c e : LinkSide) (h i j : Option (List ℕ)) → Ran next asks s t (due_ticks now ts) a b h i → Stays o mid
      → Polls mid later (Ok (Some d)) → Sends (Polled ∷ []) b c → us ≡ map (rearmed now) ts → shown ≡ d
      → Ran next asks t u (Packet shown ∷ []) c e i j → Stays later last → Turned next asks s u now ts us o last a e h j
  packet_turn s t u now ts us o mid later last d shown a b c e h i j ran stays answer poll timers same two after =
      let same_state : Ran next asks t u (Packet d ∷ []) c e i j = rw same at two in
      let here : Ran next asks (ticked next s now ts).0 u (Packet d ∷ []) c e i j = rw ran.state at same_state in
      record {
        answer = Received d;
        taken = takes_stays o later last (Received d) (poll_taken o mid later (Some d) stays answer) after;
        works = refl;
        timers = timers;
        state = here.state;
        done =
            acts_done asks (ticked next s now ts).1 (polled next (ticked next s now ts).0 (Received d)).1 a b e h i j ran.done
            (packet_done (ticked next s now ts).0 u d b c e i j poll here);
      }

  -- a datagram came, and what the core gave was not done
  pub packet_stops : (s t u : S) (now : ℕ) (ts us : List Timer) (o mid later last : Option (List PollAnswer)) (d shown : List ℕ)
      (x : DeviceError) (a b c e : LinkSide) (h i j : Option (List ℕ)) → Ran next asks s t (due_ticks now ts) a b h i → Stays o mid
      → Polls mid later (Ok (Some d)) → Sends (Polled ∷ []) b c → shown ≡ d
      → Stops (effects_by asks (taking next t (Packet shown ∷ []))) x c e i j → Stays later last
      → TurnEnds next asks {T = Unit {0}} s u now ts us o last (Err (error_of x)) a e h j
  packet_stops s t u now ts us o mid later last d shown x a b c e h i j ran stays answer poll same two after =
      let same_state : Stops (effects_by asks (taking next t (Packet d ∷ []))) x c e i j = rw same at two in
      let here : Stops (effects_by asks (taking next (ticked next s now ts).0 (Packet d ∷ []))) x c e i j = rw ran.state at same_state in
      stopped_by s u now ts us o last d x a e h j
      (takes_gives o last (Received d) (takes_stays o later last (Received d) (poll_taken o mid later (Some d) stays answer) after))
      (acts_stop asks (ticked next s now ts).1 (polled next (ticked next s now ts).0 (Received d)).1 x a b e h i j ran.done
      (packet_stopped (ticked next s now ts).0 d x b c e i j poll here))
    where
      stopped_by : (s u : S) (now : ℕ) (ts us : List Timer) (o last : Option (List PollAnswer)) (d : List ℕ) (x : DeviceError)
          (a e : LinkSide) (h j : Option (List ℕ)) → Gives o (Received d)
          → Stops (effects_by asks ((ticked next s now ts).1 ++ (polled next (ticked next s now ts).0 (Received d)).1)) x a e h j
          → TurnEnds next asks {T = Unit {0}} s u now ts us o last (Err (error_of x)) a e h j
      stopped_by s u now ts us o last d writes.Failed a e h j gives stops =
          record { answer = Received d; gives = gives; stopped = stops }
      stopped_by s u now ts us o last d writes.NoMemory a e h j gives stops =
          record { answer = Received d; gives = gives; stopped = stops }

  -- the poll failed
  pub failed_turn : (s t : S) (now : ℕ) (ts : List Timer) (o mid later : Option (List PollAnswer)) (a b c : LinkSide)
      (h i : Option (List ℕ)) → Ran next asks s t (due_ticks now ts) a b h i → Stays o mid → Polls mid later (Err writes.Failed)
      → Sends (Polled ∷ []) b c → PollFailed next asks s now ts o a c h i
  failed_turn s t now ts o mid later a b c h i ran stays answer poll = record {
    gives = poll_failed o mid later stays answer;
    done = acts_done asks (ticked next s now ts).1 (Polling ∷ []) a b c h i i ran.done (polled_done b c i poll);
  }

  -- memory ran out at the poll
  pub short_turn : (s t : S) (now : ℕ) (ts : List Timer) (o : Option (List PollAnswer)) (a b c : LinkSide) (h i : Option (List ℕ))
      → Ran next asks s t (due_ticks now ts) a b h i → Sends [] b c → TurnStopped next asks s now ts o a c h i
  short_turn s t now ts o a b c h i ran sends = record {
    answer = next_answer o;
    gives = gives_next o;
    stopped =
        acts_stopped asks (ticked next s now ts).1 (polled next (ticked next s now ts).0 (next_answer o)).1 a c c h i i
        (done_quiet (effects_by asks (ticked next s now ts).1) a b c h i ran.done sends)
        (nothing_done (effects_by asks (polled next (ticked next s now ts).0 (next_answer o)).1) c i);
  }
