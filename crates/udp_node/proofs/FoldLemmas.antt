-- Inputs one after another.
use Rattle.std.proofs.Common.{◌≡◌, ℕ, ◌+◌, ◌<◌, List, [], ◌∷◌, ◌++◌, length, get_or, take, drop, Option, refl, ap, sym, ◌∙◌, append_assoc}
use Rattle.std.proofs.Common.{arith}
use Rattle.std.proofs.KnownBytes.{Appends-trans}
use Rattle.std.specs.Io.KnownBytes.{Appends}
use Rattle.std.specs.List.{flat_map}
use Rattle.std.specs.Prelude.{nat_le, slice_get, map, Some, None, Bool, true, false}
use Rattle.std.proofs.lemmas.Grind.{common_steps}
use Rattle.std.proofs.lemmas.List.{take_more, take-append-drop, map_more}
use Rattle.std.proofs.lemmas.Option.{slice_get_within, get_or_from_slice_get, slice_get-get_or, slice_get_cases}
use Rattle.nop_types.specs.declared.input.Tick.{Tick}
use Rattle.nop_types.specs.declared.input.Tick.TheVariants.{Suspect}
use Rattle.nop_types.specs.Given.{Given, Packet, Ticked}
use Rattle.nop_types.specs.declared.output.Out.{Out}
use Rattle.outside.specs.declared.errors.DeviceError.{DeviceError}
use Rattle.udp_node.specs.declared.address.Address.{Address}
use Rattle.udp_node.specs.declared.firing.Timer.{Timer}
use Rattle.outside.specs.declared.link.PollAnswer.{PollAnswer}
use Rattle.outside.specs.declared.link.PollAnswer.TheVariants.{Received}
use Rattle.udp_node.specs.Effects.{Effect, Step, effects, effects_of, lines, Done, Stops, Stepping, effects_by, step_effects}
use Rattle.udp_node.specs.Folding.{folded, steps_of, Ran, AllOutside, TookSome, taking}
use Rattle.udp_node.specs.Sends.{LinkSide}
use Rattle.udp_node.specs.Timing.{due_ticks, packet_of, tick_if, armed}
use Rattle.udp_node.specs.Turns.{Turned, ticked, polled}
use Rattle.udp_node.proofs.EffectLemmas.{acts_append, each_append, lines_append, done_then, stops_then, stops_more as effects_stop, Appends_none}
use Rattle.udp_node.proofs.SendLemmas.{no_sends}

pub state_append : {S : Type 0} (next : S → Given → S × List Out) (s : S) (xs ys : List Given)
    → (folded next s (xs ++ ys)).0 ≡ (folded next (folded next s xs).0 ys).0
state_append next s [] ys = refl
state_append next s (x ∷ xs) ys = state_append next (next s x).0 xs ys

pub outs_append : {S : Type 0} (next : S → Given → S × List Out) (s : S) (xs ys : List Given)
    → (folded next s (xs ++ ys)).1 ≡ (folded next s xs).1 ++ (folded next (folded next s xs).0 ys).1
outs_append next s [] ys = refl
outs_append next s (x ∷ xs) ys =
    ap (λ os. (next s x).1 ++ os) (outs_append next (next s x).0 xs ys)
    ∙ sym (append_assoc (next s x).1 (folded next (next s x).0 xs).1 (folded next (folded next (next s x).0 xs).0 ys).1)

pub taking_then : {S : Type 0} (next : S → Given → S × List Out) (s : S) (xs ys : List Given)
    → taking next s (xs ++ ys) ≡ taking next s xs ++ taking next (folded next s xs).0 ys
taking_then next s [] ys = refl
taking_then next s (x ∷ xs) ys =
    ap (λ acts. Stepping (record { given = x; outs = (next s x).1 }) ∷ acts) (taking_then next (next s x).0 xs ys)

taken_then : {S : Type 0} (next : S → Given → S × List Out) (asks : Step → List Effect) (s : S) (xs ys : List Given)
    → effects_by asks (taking next s (xs ++ ys))
    ≡ effects_by asks (taking next s xs) ++ effects_by asks (taking next (folded next s xs).0 ys)
taken_then next asks s xs ys =
    ap (effects_by asks) (taking_then next s xs ys) ∙ acts_append asks (taking next s xs) (taking next (folded next s xs).0 ys)

-- the outputs of the steps are those of the fold
pub outs_of_steps : {S : Type 0} (next : S → Given → S × List Out) (s : S) (xs : List Given)
    → (folded next s xs).1 ≡ flat_map (λ (x : Step). x.outs) (steps_of next s xs)
outs_of_steps next s [] = refl
outs_of_steps next s (x ∷ xs) = ap (λ os. (next s x).1 ++ os) (outs_of_steps next (next s x).0 xs)

-- where no trace is written, the steps ask of the outside what their outputs ask
pub taken_is : {S : Type 0} (next : S → Given → S × List Out) (at : Address) (s : S) (xs : List Given)
    → effects_by (step_effects false at) (taking next s xs) ≡ effects at (folded next s xs).1
taken_is next at s [] = refl
taken_is next at s (x ∷ xs) =
    ap (λ es. effects at (next s x).1 ++ es) (taken_is next at (next s x).0 xs)
    ∙ sym (each_append (effects_of at) (next s x).1 (folded next (next s x).0 xs).1)

pub none_ran : {S : Type 0} (next : S → Given → S × List Out) (asks : Step → List Effect) (s : S) (a : LinkSide) (h : Option (List ℕ))
    → Ran next asks s s [] a a h h
none_ran next asks s a h = record { state = refl; done = record { sends = no_sends a; lines = Appends_none h } }

pub ran_then : {S : Type 0} (next : S → Given
    → S × List Out) (asks : Step → List Effect) (s t u : S) (xs ys : List Given) (a b c : LinkSide) (h i j : Option (List ℕ))
    → Ran next asks s t xs a b h i → Ran next asks t u ys b c i j → Ran next asks s u (xs ++ ys) a c h j
ran_then next asks s t u xs ys a b c h i j one two =
    let state : u ≡ (folded next (folded next s xs).0 ys).0 = rw one.state at two.state in
    let done : Done (effects_by asks (taking next (folded next s xs).0 ys)) b c i j = rw one.state at two.done in
    record {
      state = rw (state_append next s xs ys) state;
      done =
          rw (taken_then next asks s xs ys)
          (done_then (effects_by asks (taking next s xs)) (effects_by asks (taking next (folded next s xs).0 ys)) a b c h i j one.done done);
    }

pub ran_stops : {S : Type 0} (next : S → Given
    → S × List Out) (asks : Step → List Effect) (s t : S) (e : DeviceError) (xs ys : List Given) (a b c : LinkSide) (h i j : Option (List ℕ))
    → Ran next asks s t xs a b h i → Stops (effects_by asks (taking next t ys)) e b c i j
    → Stops (effects_by asks (taking next s (xs ++ ys))) e a c h j
ran_stops next asks s t e xs ys a b c h i j one two =
    let stops : Stops (effects_by asks (taking next (folded next s xs).0 ys)) e b c i j = rw one.state at two in
    rw (taken_then next asks s xs ys)
    (stops_then (effects_by asks (taking next s xs)) (effects_by asks (taking next (folded next s xs).0 ys)) e a b c h i j one.done stops)

pub stops_more : {S : Type 0} (next : S → Given
    → S × List Out) (asks : Step → List Effect) (s : S) (e : DeviceError) (xs ys : List Given) (a b : LinkSide) (h i : Option (List ℕ))
    → Stops (effects_by asks (taking next s xs)) e a b h i → Stops (effects_by asks (taking next s (xs ++ ys))) e a b h i
stops_more next asks s e xs ys a b h i one =
    rw (taken_then next asks s xs ys)
    (effects_stop (effects_by asks (taking next s xs)) (effects_by asks (taking next (folded next s xs).0 ys)) e a b h i one)

-- ---- inputs, whatever link and clock tell

pub outside_append : (xs ys : List Given) → AllOutside xs → AllOutside ys → AllOutside (xs ++ ys)
outside_append [] ys one two = two
outside_append (Packet bytes ∷ xs) ys one two = outside_append xs ys one two
outside_append (Ticked tick ∷ xs) ys one two = outside_append xs ys one two
outside_append _ ys one two = absurd one

tick_outside : (b : Bool) (tick : Tick) → AllOutside (tick_if b tick)
tick_outside true tick = tt
tick_outside false tick = tt

pub due_outside : (now : ℕ) (ts : List Timer) → AllOutside (due_ticks now ts)
due_outside now [] = tt
due_outside now (t ∷ ts) =
    outside_append (tick_if (nat_le t.due now) t.tick) (due_ticks now ts) (tick_outside (nat_le t.due now) t.tick) (due_outside now ts)

pub packet_outside : (p : PollAnswer) → AllOutside (packet_of p)
packet_outside (Received datagram) = tt
packet_outside _ = tt

pub took_nothing : {S : Type 0} (next : S → Given → S × List Out) (asks : Step → List Effect) (s : S) (h : Option (List ℕ))
    → TookSome next asks [] s s h h
took_nothing next asks s h = record { inputs = []; outside = tt; state = refl; written = Appends_none h }

pub took_then : {S : Type 0} (next : S → Given → S × List Out) (asks : Step → List Effect) (s t u : S) (h i j : Option (List ℕ))
    → TookSome next asks [] s t h i → TookSome next asks [] t u i j → TookSome next asks [] s u h j
took_then next asks s t u h i j one two =
    let state : u ≡ (folded next (folded next s one.inputs).0 two.inputs).0 = rw one.state at two.state in
    let written : Appends i j (lines (effects_by asks (taking next (folded next s one.inputs).0 two.inputs))) = rw one.state at two.written in
    record {
      inputs = one.inputs ++ two.inputs;
      outside = outside_append one.inputs two.inputs one.outside two.outside;
      state = rw (state_append next s one.inputs two.inputs) state;
      written =
          rw (taken_then next asks s one.inputs two.inputs, lines_append (effects_by asks (taking next s one.inputs)))
          (Appends-trans h i j (lines (effects_by asks (taking next s one.inputs)))
          (lines (effects_by asks (taking next (folded next s one.inputs).0 two.inputs))) one.written written);
    }

pub took_after : {S : Type 0} (next : S → Given → S × List Out) (asks : Step → List Effect) (s t u : S) (first : List Given) (a b : LinkSide)
    (h i j : Option (List ℕ)) → Ran next asks s t first a b h i → TookSome next asks [] t u i j → TookSome next asks first s u h j
took_after next asks s t u first a b h i j ran two =
    let state : u ≡ (folded next (folded next s first).0 two.inputs).0 = rw ran.state at two.state in
    let written : Appends i j (lines (effects_by asks (taking next (folded next s first).0 two.inputs))) = rw ran.state at two.written in
    record {
      inputs = two.inputs;
      outside = two.outside;
      state = rw (state_append next s first two.inputs) state;
      written =
          rw (taken_then next asks s first two.inputs, lines_append (effects_by asks (taking next s first)))
          (Appends-trans h i j (lines (effects_by asks (taking next s first)))
          (lines (effects_by asks (taking next (folded next s first).0 two.inputs))) ran.done.lines written);
    }

pub turn_took : {S : Type 0} (next : S → Given → S × List Out) (asks : Step → List Effect) (s t : S) (now : ℕ) (ts us : List Timer)
    (o later : Option (List PollAnswer)) (a b : LinkSide) (h i : Option (List ℕ)) → Turned next asks s t now ts us o later a b h i
    → TookSome next asks [] s t h i
turn_took next asks s t now ts us o later a b h i turn = record {
  inputs = due_ticks now ts ++ packet_of turn.answer;
  outside = outside_append (due_ticks now ts) (packet_of turn.answer) (due_outside now ts) (packet_outside turn.answer);
  state = rw (state_append next s (due_ticks now ts) (packet_of turn.answer)) turn.state;
  written =
      rw (taken_then next asks s (due_ticks now ts) (packet_of turn.answer), lines_append (effects_by asks (taking next s (due_ticks now ts))))
      (rw (
        acts_append asks (ticked next s now ts).1 (polled next (ticked next s now ts).0 turn.answer).1,
        lines_append (effects_by asks (ticked next s now ts).1) (effects_by asks (polled next (ticked next s now ts).0 turn.answer).1),
      ) at turn.done.lines);
}

-- ---- timers

pub due_append : (now : ℕ) (xs ys : List Timer) → due_ticks now (xs ++ ys) ≡ due_ticks now xs ++ due_ticks now ys
due_append now [] ys = refl
due_append now (x ∷ xs) ys =
    ap (λ is. tick_if (nat_le x.due now) x.tick ++ is) (due_append now xs ys)
    ∙ sym (append_assoc (tick_if (nat_le x.due now) x.tick) (due_ticks now xs) (due_ticks now ys))

abbrev pub no_timer : Timer
no_timer = record { tick = Suspect; period = 0; due = 0 }

due_next : (now : ℕ) (ts : List Timer) (k : ℕ) → k < length ts
    → due_ticks now (take (k + 1) ts) ≡ due_ticks now (take k ts) ++ due_ticks now (get_or ts k no_timer ∷ [])
due_next now ts k within = rw (take_more ts k no_timer within) (due_append now (take k ts) (get_or ts k no_timer ∷ []))

pub timer_ran : {S : Type 0} (next : S → Given
    → S × List Out) (asks : Step → List Effect) (now : ℕ) (ts : List Timer) (k : ℕ) (s t u : S) (a b c : LinkSide) (h i j : Option (List ℕ))
    → k < length ts → Ran next asks s t (due_ticks now (take k ts)) a b h i
    → Ran next asks t u (due_ticks now (get_or ts k no_timer ∷ [])) b c i j → Ran next asks s u (due_ticks now (take (k + 1) ts)) a c h j
timer_ran next asks now ts k s t u a b c h i j within one two =
    rw (due_next now ts k within)
    (ran_then next asks s t u (due_ticks now (take k ts)) (due_ticks now (get_or ts k no_timer ∷ [])) a b c h i j one two)

pub timer_stops : {S : Type 0} (next : S → Given
    → S × List Out) (asks : Step → List Effect) (e : DeviceError) (now : ℕ) (ts : List Timer) (k : ℕ) (s t : S) (a b c : LinkSide)
    (h i j : Option (List ℕ)) → k < length ts → Ran next asks s t (due_ticks now (take k ts)) a b h i
    → Stops (effects_by asks (taking next t (due_ticks now (get_or ts k no_timer ∷ [])))) e b c i j
    → Stops (effects_by asks (taking next s (due_ticks now ts))) e a c h j
timer_stops next asks e now ts k s t a b c h i j within one two =
    let all : due_ticks now ts ≡ (due_ticks now (take k ts) ++ due_ticks now (get_or ts k no_timer ∷ [])) ++ due_ticks now
    (drop (k + 1) ts) =
    ap (due_ticks now) (sym (take-append-drop (k + 1) ts)) ∙ due_append now (take (k + 1) ts) (drop (k + 1) ts)
    ∙ ap (λ is. is ++ due_ticks now (drop (k + 1) ts)) (due_next now ts k within) in
    rw all
    (stops_more next asks s e (due_ticks now (take k ts) ++ due_ticks now (get_or ts k no_timer ∷ []))
    (due_ticks now (drop (k + 1) ts)) a c h j
    (ran_stops next asks s t e (due_ticks now (take k ts)) (due_ticks now (get_or ts k no_timer ∷ [])) a b c h i j one two))

pub armed_more : (now : ℕ) (xs : List (Tick × ℕ)) (i : ℕ) (x : Tick × ℕ) → slice_get xs i ≡ Some x
    → map (armed now) (take (i + 1) xs) ≡ map (armed now) (take i xs) ++ armed now x ∷ []
armed_more now xs i x is =
    let within : i < length xs = slice_get_within xs i x is in
    let same : get_or xs i x ≡ x = get_or_from_slice_get xs i x x is in
    rw same at (map_more (armed now) xs i x within)

pub all_taken : (xs : List (Tick × ℕ)) (i : ℕ) → slice_get xs i ≡ None → take i xs ≡ xs
all_taken [] i is = grind (arith, common_steps)
all_taken (x ∷ xs) i is = grind (arith, common_steps, is, slice_get_cases (x ∷ xs) i)

pub same_read : (ts : List Timer) (i : ℕ) → i < length ts → get_or ts i no_timer ≡ get_or ts i (get_or ts i no_timer)
same_read ts i within =
    sym (get_or_from_slice_get ts i (get_or ts i no_timer) (get_or ts i no_timer) (slice_get-get_or ts i no_timer within))
