-- Effects one after another.
use Rattle.std.proofs.Common.{◌≡◌, ℕ, zero, suc, ◌+◌, ◌<◌, List, [], ◌∷◌, ◌++◌, map, length, get_or, take, drop}
use Rattle.std.proofs.Common.{true, false, Option, Some, None, Result, Ok, Err, refl, ap, sym, ◌∙◌, append_assoc, append-nil, arith}
use Rattle.std.proofs.KnownBytes.{Appends-trans}
use Rattle.std.specs.Io.KnownBytes.{Appends}
use Rattle.std.specs.List.{flat_map}
use Rattle.std.proofs.lemmas.List.{take_more, take-append-drop}
use Rattle.nop_types.specs.declared.output.Out.TheVariants as outs
use Rattle.udp_node.specs.Ports.{datagrams_to}
use Rattle.nop_types.specs.declared.output.Out.{Out}
use Rattle.outside.specs.declared.errors.DeviceError.{DeviceError}
use Rattle.outside.specs.declared.errors.DeviceError.TheVariants.{Failed, NoMemory}
use Rattle.outside.specs.declared.link.LinkCall.{LinkCall}
use Rattle.outside.specs.declared.link.LinkCall.TheVariants.{Polled}
use Rattle.udp_node.specs.declared.address.Address.{Address}
use Rattle.udp_node.specs.Effects.{Effect, Call, Line, effects, effects_of, calls, lines, first_line, Done, Stopped, StoppedInLine, Stops}
use Rattle.udp_node.specs.Effects.{Act, Polling, Stepping, Step, act_effects, effects_by, step_effects, step_text, steps_in, sends_of, sends_in}
use Rattle.udp_node.specs.Effects.{Carries, Writes}
use Rattle.udp_node.specs.Sends.{LinkSide, Sends, SendsPrefix}
use Rattle.udp_node.proofs.SendLemmas.{sends_then, no_sends}

pub calls_append : (xs ys : List Effect) → calls (xs ++ ys) ≡ calls xs ++ calls ys
calls_append [] ys = refl
calls_append (Call d ∷ xs) ys = ap (λ ds. d ∷ ds) (calls_append xs ys)
calls_append (Line l ∷ xs) ys = calls_append xs ys

pub lines_append : (xs ys : List Effect) → lines (xs ++ ys) ≡ lines xs ++ lines ys
lines_append [] ys = refl
lines_append (Call d ∷ xs) ys = lines_append xs ys
lines_append (Line l ∷ xs) ys = ap (λ ls. l ++ ls) (lines_append xs ys) ∙ sym (append_assoc l (lines xs) (lines ys))

pub calls_map : (ds : List LinkCall) → calls (map Call ds) ≡ ds
calls_map [] = refl
calls_map (d ∷ ds) = ap (λ es. d ∷ es) (calls_map ds)

pub lines_map : (ds : List LinkCall) → lines (map Call ds) ≡ []
lines_map [] = refl
lines_map (d ∷ ds) = lines_map ds

pub map_append : (xs ys : List LinkCall) → map Call (xs ++ ys) ≡ map Call xs ++ map Call ys
map_append [] ys = refl
map_append (x ∷ xs) ys = ap (λ es. Call x ∷ es) (map_append xs ys)

pub first_line_map : (ds : List LinkCall) → first_line (map Call ds) ≡ []
first_line_map [] = refl
first_line_map (d ∷ ds) = refl

pub Appends_none : (s : Option (List ℕ)) → Appends s s []
Appends_none None = tt
Appends_none (Some xs) = sym (append-nil xs)

pub done_then : (xs ys : List Effect) (a b c : LinkSide) (h i j : Option (List ℕ)) → Done xs a b h i → Done ys b c i j
    → Done (xs ++ ys) a c h j
done_then xs ys a b c h i j one two = record {
  sends = rw (calls_append xs ys) (sends_then (calls xs) (calls ys) a b c one.sends two.sends);
  lines = rw (lines_append xs ys) (Appends-trans h i j (lines xs) (lines ys) one.lines two.lines);
}

pub stopped_then : (xs ys : List Effect) (a b c : LinkSide) (h i j : Option (List ℕ)) → Done xs a b h i → Stopped ys b c i j
    → Stopped (xs ++ ys) a c h j
stopped_then xs ys a b c h i j one two = record {
  prefix = xs ++ two.prefix;
  rest = two.rest;
  split = ap (λ zs. xs ++ zs) two.split ∙ sym (append_assoc xs two.prefix two.rest);
  count = two.count;
  sends = rw (calls_append xs two.prefix) (sends_then (calls xs) (calls two.prefix) a b c one.sends two.sends);
  lines =
      rw (lines_append xs two.prefix, append_assoc (lines xs))
      (Appends-trans h i j (lines xs) (lines two.prefix ++ take two.count (first_line two.rest)) one.lines two.lines);
}

pub stops_then : (xs ys : List Effect) (e : DeviceError) (a b c : LinkSide) (h i j : Option (List ℕ)) → Done xs a b h i
    → Stops ys e b c i j → Stops (xs ++ ys) e a c h j
unfolding stopped_then
stops_then xs ys Failed a b c h i j one two = record { stopped = stopped_then xs ys a b c h i j one two.stopped; below = two.below }
stops_then xs ys NoMemory a b c h i j one two = stopped_then xs ys a b c h i j one two

take_none : (count : ℕ) → take {A = ℕ} count [] ≡ []
take_none zero = refl
take_none (suc count) = refl

-- nothing of no line is nothing of any line
no_line : (h i : Option (List ℕ)) (xs l : List ℕ) (count : ℕ) → Appends h i (xs ++ take count []) → Appends h i (xs ++ take 0 l)
no_line h i xs l count one =
    let e : xs ++ take count [] ≡ xs ++ take 0 l = ap (λ (ys : List ℕ). xs ++ ys) (take_none count) in
    rw e at one

-- the line that comes next stays, where there is one
stopped_by : (xs ys prefix rest : List Effect) (count : ℕ) (a b : LinkSide) (h i : Option (List ℕ)) → xs ≡ prefix ++ rest
    → Sends (calls prefix) a b → Appends h i (lines prefix ++ take count (first_line rest)) → Stopped (xs ++ ys) a b h i
stopped_by xs ys prefix [] count a b h i split sends wrote = record {
  prefix = prefix;
  rest = ys;
  split = rw split (append_assoc prefix [] ys);
  count = 0;
  sends = sends;
  lines = no_line h i (lines prefix) (first_line ys) count wrote;
}
stopped_by xs ys prefix (Call d ∷ rest) count a b h i split sends wrote = record {
  prefix = prefix;
  rest = Call d ∷ (rest ++ ys);
  split = rw split (append_assoc prefix (Call d ∷ rest) ys);
  count = count;
  sends = sends;
  lines = wrote;
}
stopped_by xs ys prefix (Line l ∷ rest) count a b h i split sends wrote = record {
  prefix = prefix;
  rest = Line l ∷ (rest ++ ys);
  split = rw split (append_assoc prefix (Line l ∷ rest) ys);
  count = count;
  sends = sends;
  lines = wrote;
}

pub stopped_more : (xs ys : List Effect) (a b : LinkSide) (h i : Option (List ℕ)) → Stopped xs a b h i → Stopped (xs ++ ys) a b h i
stopped_more xs ys a b h i one = stopped_by xs ys one.prefix one.rest one.count a b h i one.split one.sends one.lines

in_line_by : (xs ys prefix rest : List Effect) (count : ℕ) (a b : LinkSide) (h i : Option (List ℕ)) → xs ≡ prefix ++ rest
    → Sends (calls prefix) a b → Appends h i (lines prefix ++ take count (first_line rest)) → count < length (first_line rest)
    → StoppedInLine (xs ++ ys) a b h i
in_line_by xs ys prefix [] count a b h i split sends wrote below = absurd (omega (arith, below))
in_line_by xs ys prefix (Call d ∷ rest) count a b h i split sends wrote below = absurd (omega (arith, below))
in_line_by xs ys prefix (Line l ∷ rest) count a b h i split sends wrote below = record {
  stopped = record {
    prefix = prefix;
    rest = Line l ∷ (rest ++ ys);
    split = rw split (append_assoc prefix (Line l ∷ rest) ys);
    count = count;
    sends = sends;
    lines = wrote;
  };
  below = below;
}

pub stops_more : (xs ys : List Effect) (e : DeviceError) (a b : LinkSide) (h i : Option (List ℕ)) → Stops xs e a b h i
    → Stops (xs ++ ys) e a b h i
stops_more xs ys Failed a b h i one =
    in_line_by xs ys one.stopped.prefix one.stopped.rest one.stopped.count a b h i one.stopped.split one.stopped.sends
    one.stopped.lines one.below
stops_more xs ys NoMemory a b h i one = stopped_more xs ys a b h i one

pub carries_then : {T : Type 0} (xs ys : List Effect) (r : Result T DeviceError) (a b c : LinkSide) (h i j : Option (List ℕ))
    → Done xs a b h i → Carries ys r b c i j → Carries (xs ++ ys) r a c h j
carries_then xs ys (Ok t) a b c h i j one two = done_then xs ys a b c h i j one two
carries_then xs ys (Err e) a b c h i j one two = stops_then xs ys e a b c h i j one two

-- ---- acts in order

pub acts_append : (asks : Step → List Effect) (xs ys : List Act) → effects_by asks (xs ++ ys) ≡ effects_by asks xs ++ effects_by asks ys
acts_append asks [] ys = refl
acts_append asks (x ∷ xs) ys =
    ap (λ es. act_effects asks x ++ es) (acts_append asks xs ys)
    ∙ sym (append_assoc (act_effects asks x) (effects_by asks xs) (effects_by asks ys))

pub acts_done : (asks : Step → List Effect) (xs ys : List Act) (a b c : LinkSide) (h i j : Option (List ℕ)) → Done (effects_by asks xs) a b h i
    → Done (effects_by asks ys) b c i j → Done (effects_by asks (xs ++ ys)) a c h j
acts_done asks xs ys a b c h i j one two =
    rw (acts_append asks xs ys) (done_then (effects_by asks xs) (effects_by asks ys) a b c h i j one two)

pub acts_stopped : (asks : Step → List Effect) (xs ys : List Act) (a b c : LinkSide) (h i j : Option (List ℕ)) → Done (effects_by asks xs) a b h i
    → Stopped (effects_by asks ys) b c i j → Stopped (effects_by asks (xs ++ ys)) a c h j
acts_stopped asks xs ys a b c h i j one two =
    rw (acts_append asks xs ys) (stopped_then (effects_by asks xs) (effects_by asks ys) a b c h i j one two)

pub acts_stop : (asks : Step → List Effect) (xs ys : List Act) (e : DeviceError) (a b c : LinkSide) (h i j : Option (List ℕ))
    → Done (effects_by asks xs) a b h i → Stops (effects_by asks ys) e b c i j → Stops (effects_by asks (xs ++ ys)) e a c h j
acts_stop asks xs ys e a b c h i j one two =
    rw (acts_append asks xs ys) (stops_then (effects_by asks xs) (effects_by asks ys) e a b c h i j one two)

pub acts_stop_more : (asks : Step → List Effect) (xs ys : List Act) (e : DeviceError) (a b : LinkSide) (h i : Option (List ℕ))
    → Stops (effects_by asks xs) e a b h i → Stops (effects_by asks (xs ++ ys)) e a b h i
acts_stop_more asks xs ys e a b h i one =
    rw (acts_append asks xs ys) (stops_more (effects_by asks xs) (effects_by asks ys) e a b h i one)

-- ---- one output

pub posted : (ds : List LinkCall) (a b : LinkSide) (h : Option (List ℕ)) → Sends ds a b → Done (map Call ds) a b h h
posted ds a b h sends = record {
  sends = rw (calls_map ds) sends;
  lines = rw (lines_map ds) (Appends_none h);
}

pub posted_prefix : (ds : List LinkCall) (a b : LinkSide) (h : Option (List ℕ)) → SendsPrefix ds a b → Stopped (map Call ds) a b h h
posted_prefix ds a b h one = record {
  prefix = map Call one.before;
  rest = map Call one.rest;
  split = rw (one.split) (map_append one.before one.rest);
  count = 0;
  sends = rw (calls_map one.before) one.sends;
  lines = rw (lines_map one.before) (Appends_none h);
}

pub wrote_line : {T : Type 0} (line : List ℕ) (r : Result T DeviceError) (a : LinkSide) (h i : Option (List ℕ)) → Writes line r h i
    → Carries (Line line ∷ []) r a a h i
wrote_line line (Ok t) a h i one = record { sends = no_sends a; lines = rw (append-nil line) one }
wrote_line line (Err Failed) a h i one = record {
  stopped = record { prefix = []; rest = Line line ∷ []; split = refl; count = one.count; sends = no_sends a; lines = one.appended };
  below = one.below;
}
wrote_line line (Err NoMemory) a h i one =
    record { prefix = []; rest = Line line ∷ []; split = refl; count = one.count; sends = no_sends a; lines = one.appended }

pub nothing_done : (es : List Effect) (a : LinkSide) (h : Option (List ℕ)) → Stopped es a a h h
nothing_done es a h = record { prefix = []; rest = es; split = refl; count = 0; sends = no_sends a; lines = Appends_none h }

-- the link was polled
pub polled_done : (a b : LinkSide) (h : Option (List ℕ)) → Sends (Polled ∷ []) a b → Done (Call Polled ∷ []) a b h h
polled_done a b h sends = record { sends = sends; lines = Appends_none h }

-- losses were found, and nothing else happened
pub done_quiet : (es : List Effect) (a b c : LinkSide) (h i : Option (List ℕ)) → Done es a b h i → Sends [] b c → Done es a c h i
done_quiet es a b c h i one two =
    let none : calls es ++ [] ≡ calls es = append-nil (calls es) in
    record { sends = rw none at (sends_then (calls es) [] a b c one.sends two); lines = one.lines }

-- ---- outputs in order

module _ (f : Out → List Effect) where
  pub each_append : (xs ys : List Out) → flat_map f (xs ++ ys) ≡ flat_map f xs ++ flat_map f ys
  each_append [] ys = refl
  each_append (x ∷ xs) ys = ap (λ es. f x ++ es) (each_append xs ys) ∙ sym (append_assoc (f x) (flat_map f xs) (flat_map f ys))

  each_more : (os : List Out) (o : Out) → flat_map f (os ++ o ∷ []) ≡ flat_map f os ++ f o
  each_more os o =
      let one : f o ++ [] ≡ f o = append-nil (f o) in
      each_append os (o ∷ []) ∙ rw one refl

  each_next : (os : List Out) (i : ℕ) (o : Out) → i < length os → o ≡ get_or os i o
      → flat_map f (take (i + 1) os) ≡ flat_map f (take i os) ++ f o
  each_next os i o within is =
      let e : take (i + 1) os ≡ take i os ++ o ∷ [] = rw (← is) at (take_more os i o within) in
      rw e (each_more (take i os) o)

  pub out_done : (os : List Out) (i : ℕ) (o : Out) (a b c : LinkSide) (h j k : Option (List ℕ)) → i < length os
      → o ≡ get_or os i o → Done (flat_map f (take i os)) a b h j → Done (f o) b c j k
      → Done (flat_map f (take (i + 1) os)) a c h k
  out_done os i o a b c h j k within is one two =
      rw (each_next os i o within is) (done_then (flat_map f (take i os)) (f o) a b c h j k one two)

  pub out_stopped : (e : DeviceError) (os : List Out) (i : ℕ) (o : Out) (a b c : LinkSide) (h j k : Option (List ℕ))
      → i < length os → o ≡ get_or os i o → Done (flat_map f (take i os)) a b h j → Stops (f o) e b c j k
      → Stops (flat_map f os) e a c h k
  out_stopped e os i o a b c h j k within is one two =
      let all : flat_map f os ≡ (flat_map f (take i os) ++ f o) ++ flat_map f (drop (i + 1) os) =
      ap (flat_map f) (sym (take-append-drop (i + 1) os)) ∙ each_append (take (i + 1) os) (drop (i + 1) os)
      ∙ ap (λ es. es ++ flat_map f (drop (i + 1) os)) (each_next os i o within is) in
      rw all (stops_more (flat_map f (take i os) ++ f o) (flat_map f (drop (i + 1) os)) e a c h k
      (stops_then (flat_map f (take i os)) (f o) e a b c h j k one two))

-- ---- traced or not, the same is sent

calls_of_sends : (at : Address) (o : Out) → calls (sends_of at o) ≡ calls (effects_of at o)
calls_of_sends at (outs.Send dest bytes) = refl
calls_of_sends at _ = refl

calls_of_all : (at : Address) (os : List Out) → calls (sends_in at os) ≡ calls (effects at os)
calls_of_all at [] = refl
calls_of_all at (o ∷ os) =
    rw (calls_append (sends_of at o), calls_append (effects_of at o), calls_of_sends at o, calls_of_all at os) refl

act_calls : (at : Address) (x : Act) → calls (act_effects (step_effects true at) x) ≡ calls (act_effects (step_effects false at) x)
act_calls at Polling = refl
act_calls at (Stepping x) = calls_of_all at x.outs

pub same_calls : (at : Address) (acts : List Act)
    → calls (effects_by (step_effects true at) acts) ≡ calls (effects_by (step_effects false at) acts)
same_calls at [] = refl
same_calls at (x ∷ xs) =
    rw (
      calls_append (act_effects (step_effects true at) x),
      calls_append (act_effects (step_effects false at) x),
      act_calls at x,
      same_calls at xs,
    ) refl

-- ---- the lines of a node that is traced

no_lines : (at : Address) (o : Out) → lines (sends_of at o) ≡ []
no_lines at (outs.Send dest bytes) = lines_map (datagrams_to at dest bytes)
no_lines at _ = refl

no_lines_in : (at : Address) (os : List Out) → lines (sends_in at os) ≡ []
no_lines_in at [] = refl
no_lines_in at (o ∷ os) = rw (lines_append (sends_of at o), no_lines at o, no_lines_in at os) refl

pub traced_lines : (at : Address) (acts : List Act)
    → lines (effects_by (step_effects true at) acts) ≡ flat_map (step_text at.own) (steps_in acts)
traced_lines at [] = refl
traced_lines at (Polling ∷ xs) = traced_lines at xs
traced_lines at (Stepping x ∷ xs) =
    rw (
      lines_append (sends_in at x.outs),
      no_lines_in at x.outs,
      traced_lines at xs,
    ) refl
