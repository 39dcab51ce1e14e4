-- The actors of a turn, one after the other.
use Rattle.std.proofs.Common.{◌≡◌, ℕ, zero, suc, ◌+◌, ◌<◌, ◌≤◌, List, [], ◌∷◌, ◌++◌, length, Option, Some, None, refl, sym, ap, subst, ◌∙◌}
use Rattle.std.proofs.Common.{arith, map, Err, length-append, append_assoc}
use Rattle.std.specs.Prelude.{option_map, slice_get, slice_set}
use Rattle.std.specs.Option.{option_and_then}
use Rattle.nop_types.specs.Meaning.{Meaning}
use Rattle.one_box.specs.declared.node.BoxActor as code
use Rattle.one_box.specs.ClusterRun.{Course, BoxActor, node_turn, turn}
use Rattle.outside.specs.Causes.{Rose}
use Rattle.outside.specs.declared.errors.DeviceError.{DeviceError}
use Rattle.outside.specs.declared.errors.DeviceError.TheVariants.{Failed, NoMemory}
use Rattle.one_box.specs.Showing.{LinkView, Shows, ReachesIf, Serves, AllShow, AllReach, AllReachIf, Turns, HasFault}
use Rattle.one_box.specs.Showing.{LostFits, AllLostFit, place_of}
use Rattle.one_box.specs.Progress.{TurningOn}

-- what is the same of one element before and after is the same of all
pub map_set : {A B : Type 0} (f : A → B) (ys : List A) (i : ℕ) (x z : A) → slice_get ys i ≡ Some x → f z ≡ f x
    → map f (slice_set ys i z) ≡ map f ys
map_set {B = B} f [] i x z found same = absurd cc
map_set {B = B} f (y ∷ ys) zero x z found same = let here : y ≡ x = cc in ap (λ (p : B). p ∷ map f ys) (same ∙ sym (ap f here))
map_set {B = B} f (y ∷ ys) (suc i) x z found same = ap (λ (ps : List B). f y ∷ ps) (map_set f ys i x z found same)

module _ {L : Type 0} (v : LinkView L) where
  pub shown_length : (ns : List BoxActor) (xs : List (code.BoxActor L)) → AllShow v ns xs → length ns ≡ length xs
  shown_length [] [] h = refl
  shown_length [] (x ∷ xs) h = absurd h
  shown_length (n ∷ ns) [] h = absurd h
  shown_length (n ∷ ns) (x ∷ xs) h = ap suc (shown_length ns xs h.1)

  -- the actor at a place
  pub shown_at : (before rest : List BoxActor) (n : BoxActor) (xs : List (code.BoxActor L)) (x : code.BoxActor L) → AllShow v (before ++ n ∷ rest) xs
      → slice_get xs (length before) ≡ Some x → Shows v n x
  shown_at [] rest n [] x h found = absurd h
  shown_at [] rest n (y ∷ ys) x h found = let same : y ≡ x = cc in subst (Shows v n) same h.0
  shown_at (b ∷ bs) rest n [] x h found = absurd h
  shown_at (b ∷ bs) rest n (y ∷ ys) x h found = shown_at bs rest n ys x h.1 found

  pub shown_set : (before rest : List BoxActor) (n k : BoxActor) (xs : List (code.BoxActor L)) (y : code.BoxActor L) → AllShow v (before ++ n ∷ rest) xs
      → Shows v k y → AllShow v (before ++ k ∷ rest) (slice_set xs (length before) y)
  shown_set [] rest n k [] y h one = absurd h
  shown_set [] rest n k (x ∷ xs) y h one = (one, h.1)
  shown_set (b ∷ bs) rest n k [] y h one = absurd h
  shown_set (b ∷ bs) rest n k (x ∷ xs) y h one = (h.0, shown_set bs rest n k xs y h.1 one)

abbrev Turned : Type 0
Turned = Course × List BoxActor

abbrev some_turned : Course → List BoxActor → Option Turned
some_turned c ns = Some (c, ns)

behind : (before : List BoxActor) (k : BoxActor) (o : Option Turned)
    → option_map {U = Turned} (λ (q : Turned). (q.0, (before ++ k ∷ []) ++ q.1)) o
    ≡ option_map {U = Turned} (λ (q : Turned). (q.0, before ++ q.1)) (option_map {U = Turned} (λ (q : Turned). (q.0, k ∷ q.1)) o)
behind before k None = refl
behind before k (Some q) = ap (λ (ns : List BoxActor). some_turned q.0 ns) (append_assoc before (k ∷ []) q.1)

module _ {S L : Type 0} (m : Meaning S) (v : LinkView L) (ops : List (List ℕ)) (now : ℕ) (c : Course) (ns : List BoxActor) where
  abbrev then_rest : List BoxActor → Option (Course × BoxActor) → Option Turned
  then_rest rest o =
      option_and_then (λ (p : Course × BoxActor). option_map {U = Turned} (λ (q : Turned). (q.0, p.1 ∷ q.1)) (turn m ops now p.0 rest)) o

  pub none_turned : (xs : List (code.BoxActor L)) → AllShow v ns xs → TurningOn m v ops now c ns 0 c xs
  none_turned xs shown = record { before = []; rest = ns; count = refl; shown = shown; goes = same (turn m ops now c ns) }
    where
      same : (o : Option Turned) → option_map {U = Turned} (λ (q : Turned). (q.0, [] ++ q.1)) o ≡ o
      same None = refl
      same (Some q) = refl

  module _ (i : ℕ) (d : Course) (ys : List (code.BoxActor L)) (x : code.BoxActor L) (found : slice_get ys i ≡ Some x) (within : i < length ys) where
    -- the actor whose part comes next
    pub record NextNode : Type 0 where
      pub before : List BoxActor
      pub node : BoxActor
      pub rest : List BoxActor
      pub count : length before ≡ i
      pub shown : AllShow v (before ++ node ∷ rest) ys
      pub shows : Shows v node x
      pub goes : option_map (λ q. (q.0, before ++ q.1)) (turn m ops now d (node ∷ rest)) ≡ turn m ops now c ns

    next_node : TurningOn m v ops now c ns i d ys → NextNode
    next_node t = by t.rest t.shown t.goes
      where
        by : (rest : List BoxActor) → AllShow v (t.before ++ rest) ys
            → option_map (λ q. (q.0, t.before ++ q.1)) (turn m ops now d rest) ≡ turn m ops now c ns → NextNode
        by [] shown goes = absurd (omega (arith, shown_length v (t.before ++ []) ys shown, length-append t.before [], t.count, within))
        by (n ∷ rest) shown goes = record {
          before = t.before;
          node = n;
          rest = rest;
          count = t.count;
          shown = shown;
          shows = shown_at v t.before rest n ys x shown (ap (slice_get ys) t.count ∙ found);
          goes = goes;
        }

    -- its part of the turn
    pub turned : (e : Course) (z : code.BoxActor L) → TurningOn m v ops now c ns i d ys
        → ((n : BoxActor) → Shows v n x → ReachesIf v (node_turn m ops now d n) e z) → TurningOn m v ops now c ns (i + 1) e (slice_set ys i z)
    unfolding turn
    turned e z t does = by (node_turn m ops now d k.node) refl (does k.node k.shows)
      where
        k : NextNode
        k = next_node t

        by : (o : Option (Course × BoxActor)) → node_turn m ops now d k.node ≡ o → ReachesIf v o e z
            → TurningOn m v ops now c ns (i + 1) e (slice_set ys i z)
        by None is reach = absurd reach
        by (Some p) is reach = record {
          before = k.before ++ p.1 ∷ [];
          rest = k.rest;
          count = omega (arith, length-append k.before (p.1 ∷ []), k.count);
          shown =
              let set : AllShow v (k.before ++ p.1 ∷ k.rest) (slice_set ys (length k.before) z) =
              shown_set v k.before k.rest k.node p.1 ys z k.shown reach.node in
              let placed : AllShow v (k.before ++ p.1 ∷ k.rest) (slice_set ys i z) =
              subst (λ (j : ℕ). AllShow v (k.before ++ p.1 ∷ k.rest) (slice_set ys j z)) k.count set in
              subst (λ (ms : List BoxActor). AllShow v ms (slice_set ys i z)) (sym (append_assoc k.before (p.1 ∷ []) k.rest)) placed;
          goes =
              behind k.before p.1 (turn m ops now e k.rest)
              ∙ ap (λ (a : Course). option_map {U = Turned} (λ (q : Turned). (q.0, k.before ++ q.1))
              (option_map {U = Turned} (λ (q : Turned). (q.0, p.1 ∷ q.1)) (turn m ops now a k.rest))) (sym reach.course)
              ∙ ap (λ (r : Option (Course × BoxActor)). option_map {U = Turned} (λ (q : Turned). (q.0, k.before ++ q.1)) (then_rest k.rest r))
              (sym is)
              ∙ k.goes;
        }

    -- its poll failed
    pub turn_broken : (e : Course) (z : code.BoxActor L) → TurningOn m v ops now c ns i d ys
        → ((n : BoxActor) → Shows v n x → node_turn m ops now d n ≡ None) → turn m ops now c ns ≡ None
    unfolding turn
    turn_broken e z t fails =
        sym k.goes
        ∙ ap (λ (r : Option (Course × BoxActor)). option_map {U = Turned} (λ (q : Turned). (q.0, k.before ++ q.1)) (then_rest k.rest r))
        (fails k.node k.shows)
      where
        k : NextNode
        k = next_node t

  -- all of them
  pub all_turned : (i : ℕ) (d : Course) (ys : List (code.BoxActor L)) → length ys ≤ i → TurningOn m v ops now c ns i d ys
      → AllReachIf v (turn m ops now c ns) d ys
  unfolding turn
  all_turned i d ys past t = by t.rest t.shown t.goes
    where
      by : (rest : List BoxActor) → AllShow v (t.before ++ rest) ys
          → option_map {U = Turned} (λ (q : Turned). (q.0, t.before ++ q.1)) (turn m ops now d rest) ≡ turn m ops now c ns
          → AllReachIf v (turn m ops now c ns) d ys
      by (n ∷ rest) shown goes =
          absurd (omega (arith, shown_length v (t.before ++ n ∷ rest) ys shown, length-append t.before (n ∷ rest), t.count, past))
      by [] shown goes =
          let reach : AllReach v (d, t.before ++ []) d ys = record { course = refl; nodes = shown } in
          subst (λ (o : Option Turned). AllReachIf v o d ys) goes reach

-- ---- the places of actors, which no turn changes

module _ {L : Type 0} (v : LinkView L) where
  pub same_places : (ys : List (code.BoxActor L)) (i : ℕ) (x z : code.BoxActor L) → slice_get ys i ≡ Some x → place_of v z ≡ place_of v x
      → map (place_of v) (slice_set ys i z) ≡ map (place_of v) ys
  same_places ys i x z found same = map_set (place_of v) ys i x z found same

  -- one actor's losses stay counted, and so do all
  pub lost_set : (ys : List (code.BoxActor L)) (i : ℕ) (x z : code.BoxActor L) → slice_get ys i ≡ Some x → (LostFits v x → LostFits v z)
      → AllLostFit v ys → AllLostFit v (slice_set ys i z)
  lost_set [] i x z found keeps all = absurd cc
  lost_set (y ∷ ys) zero x z found keeps all = let here : y ≡ x = cc in (keeps (subst (LostFits v) here all.0), all.1)
  lost_set (y ∷ ys) (suc i) x z found keeps all = (all.0, lost_set ys i x z found keeps all.1)

  pub fault_set : (ys : List (code.BoxActor L)) (i : ℕ) (x z : code.BoxActor L) → slice_get ys i ≡ Some x → Rose 0 (v.faults z.link)
      → HasFault v (slice_set ys i z)
  fault_set ys i x z found rose = record { place = i; node = z; there = set_there ys i found; rose = rose }
    where
      set_there : (xs : List (code.BoxActor L)) (j : ℕ) → slice_get xs j ≡ Some x → slice_get (slice_set xs j z) j ≡ Some z
      set_there [] j h = absurd cc
      set_there (y ∷ xs) zero h = refl
      set_there (y ∷ xs) (suc j) h = set_there xs j h

-- an error ends the turn
pub turn_stops : {S L : Type 0} (m : Meaning S) (v : LinkView L) (ops : List (List ℕ)) (now : ℕ) (c d e : Course)
    (xs ys : List (code.BoxActor L)) (i : ℕ) (x z : code.BoxActor L) (error : DeviceError) → slice_get ys i ≡ Some x → i < length ys
    → ((ns : List BoxActor) → AllShow v ns xs → TurningOn m v ops now c ns i d ys)
    → Serves v m (λ a n. node_turn m ops now a n) (Err error) d x e z
    → Turns v m (λ a ns. turn m ops now a ns) (Err error) c xs e (slice_set ys i z)
turn_stops m v ops now c d e xs ys i x z Failed found within on fails = record {
  none = λ ns shown. turn_broken m v ops now c ns i d ys x found within e z (on ns shown) fails.none;
  fault = fault_set v ys i x z found fails.rose;
}
turn_stops m v ops now c d e xs ys i x z NoMemory found within on fails = tt
