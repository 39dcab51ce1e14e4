-- How many events a cluster keeps.
use Rattle.std.proofs.Common.{◌≡◌, ◌∙◌, ℕ, zero, suc, ◌+◌, ◌*◌, ◌≤◌, true, List, [], ◌∷◌, ◌++◌, length, map, take, Option, Some, None, Result, Ok, Err}
use Rattle.std.proofs.Common.{refl, sym, ap, subst, arith, add-one}
use Rattle.std.specs.Prelude.{slice_get, slice_set, sum, option_map, OnOk}
use Rattle.std.proofs.lemmas.List.{length-map, map-append, take_all}
use Rattle.std.proofs.Math.Nat.{mul-le-mul_right, suc-mul}
use Rattle.std.proofs.lemmas.List.Sums.{sum_by-append, sum_by-cons}
use Rattle.std.proofs.lemmas.Option.{slice_get-map}
use Rattle.lemmas.proofs.Places.{Splits-at}
use Rattle.line_fields.proofs.FieldTexts.{small_counts}
use Rattle.nop_types.specs.Configuration.{Configuration, is_configuration}
use Rattle.nop_types.specs.declared.input.Tick.{Tick}
use Rattle.nop_types.specs.declared.output.Actor.{Actor}
use Rattle.nop_types.specs.declared.output.Actor.TheVariants as actors
use Rattle.outside.specs.declared.link.PollAnswer.{PollAnswer}
use Rattle.schedule_text.specs.declared.event.Event.{Event}
use Rattle.udp_node.specs.declared.address.Address.{Address}
use Rattle.udp_node.specs.Timing.{armed}
use Rattle.world.specs.Lookups.{timers_if, timers_of}
use Rattle.world.specs.Seats.{Seated}
use Rattle.world.specs.WorldSteps.{WorldState, opening}
use Rattle.one_box.specs.declared.node.BoxActor as code
use Rattle.one_box.specs.Actors.{numbered}
use Rattle.one_box.specs.Attaching.{AttachesOne}
use Rattle.one_box.specs.Counting.{AtMost, part_of, turn_of, part_in, turn_in, most_of_turn}
use Rattle.one_box.specs.Showing.{LinkView}
use Rattle.one_box.proofs.TurningLemmas.{map_set}

-- ---- sums

sum-append : (xs ys : List ℕ) → sum (xs ++ ys) ≡ sum xs + sum ys
sum-append xs ys = sum_by-append (λ (k : ℕ). k) xs ys

sum-one : (n : ℕ) → sum (n ∷ []) ≡ n
sum-one n = let one = sum_by-cons (λ (k : ℕ). k) n [] in let none : sum [] ≡ 0 = refl in omega (arith, one, none)

sum-prefix : (ps : List ℕ) (i p : ℕ) → slice_get ps i ≡ Some p → sum (take (i + 1) ps) ≡ sum (take i ps) + p
sum-prefix ps i p there =
    let prefix : take (i + 1) ps ≡ take i ps ++ p ∷ [] = ap (λ (k : ℕ). take k ps) (add-one i) ∙ (Splits-at ps i p there).prefix in
    ap sum prefix ∙ sum-append (take i ps) (p ∷ []) ∙ ap (λ (n : ℕ). sum (take i ps) + n) (sum-one p)

-- ---- one actor after the other

module _ {L : Type 0} (ys zs : List (code.BoxActor L)) (parts : map part_of zs ≡ map part_of ys) (i : ℕ) where
  -- the parts stay
  pub parts_set : (x z : code.BoxActor L) → slice_get zs i ≡ Some x → part_of z ≡ part_of x
      → map part_of (slice_set zs i z) ≡ map part_of ys
  parts_set x z found same = map_set part_of zs i x z found same ∙ parts

  -- one actor more had its part
  pub few_more : (old mid new : List Event) (x : code.BoxActor L) → slice_get zs i ≡ Some x
      → AtMost (sum (take i (map part_of ys))) old mid → AtMost (part_of x) mid new → AtMost (sum (take (i + 1) (map part_of ys))) old new
  few_more old mid new x found before one =
      let there : slice_get (map part_of ys) i ≡ Some (part_of x) =
      ap (λ (ps : List ℕ). slice_get ps i) (sym parts) ∙ slice_get-map part_of zs i ∙ ap (option_map part_of) found in
      omega (arith, before, one, sum-prefix (map part_of ys) i (part_of x) there)

  -- all had theirs
  pub few_all : (old new : List Event) → length zs ≤ i → AtMost (sum (take i (map part_of ys))) old new → AtMost (turn_of ys) old new
  few_all old new past before =
      let count : length (map part_of ys) ≤ i =
      let same = ap length parts in omega (arith, past, same, length-map zs part_of, length-map ys part_of) in
      let all : sum (take i (map part_of ys)) ≡ turn_of ys = ap sum (take_all i (map part_of ys) count) in
      omega (arith, before, all)

-- ---- turns

-- a turn more
pub turn_more : (n taken : ℕ) (old mid new : List Event) → AtMost (taken * n) old mid → AtMost n mid new → AtMost ((taken + 1) * n) old new
turn_more n taken old mid new before one =
    let step : (taken + 1) * n ≡ taken * n + n = ap (λ (k : ℕ). k * n) (add-one taken) ∙ suc-mul taken n in
    omega (arith, before, one, step)

-- of actors with the same timers
pub a_turn_more : {L : Type 0} (xs ys : List (code.BoxActor L)) → map part_of ys ≡ map part_of xs → (taken : ℕ) (old mid new : List Event)
    → AtMost (taken * turn_of xs) old mid → AtMost (turn_of ys) mid new → AtMost ((taken + 1) * turn_of xs) old new
a_turn_more xs ys parts taken old mid new before one =
    turn_more (turn_of xs) taken old mid new before (subst (λ (ps : List ℕ). AtMost (sum ps) mid new) parts one)

-- no more turns were taken than there may be
pub turns_within : (n taken turns : ℕ) (old new : List Event) → taken ≤ turns → AtMost (taken * n) old new → AtMost (turns * n) old new
turns_within n taken turns old new within before =
    let most : taken * n ≤ turns * n = mul-le-mul_right n within in omega (arith, before, most)

-- ---- the actors, as their links are attached

module _ {L : Type 0} (v : LinkView L) (w : WorldState) (all : List Actor) where
  pub parts_more : (place : Address) (now i : ℕ) (a : Actor) (mid new : Option (List (List PollAnswer))) (xs ys : List (code.BoxActor L))
      → slice_get all i ≡ Some a → AttachesOne v place (map (armed now) (timers_of w a)) mid new xs ys
      → map part_of xs ≡ map (part_in w) (take i all) → map part_of ys ≡ map (part_in w) (take (i + 1) all)
  parts_more place now i a mid new xs ys there one before =
      let prefix : take (i + 1) all ≡ take i all ++ a ∷ [] = ap (λ (k : ℕ). take k all) (add-one i) ∙ (Splits-at all i a there).prefix in
      let part : part_of one.node ≡ part_in w a =
      ap (λ (n : ℕ). n + 1) (ap length one.fresh.timers ∙ length-map (timers_of w a) (armed now)) in
      ap (map part_of) one.added ∙ map-append part_of xs (one.node ∷ [])
      ∙ ap (λ (ps : List ℕ). ps ++ part_of one.node ∷ []) before
      ∙ ap (λ (p : ℕ). map (part_in w) (take i all) ++ p ∷ []) part
      ∙ sym (ap (map (part_in w)) prefix ∙ map-append (part_in w) (take i all) (a ∷ []))

  pub parts_all : (i : ℕ) (xs : List (code.BoxActor L)) → length all ≤ i → map part_of xs ≡ map (part_in w) (take i all)
      → map part_of xs ≡ map (part_in w) all
  parts_all i xs past parts = parts ∙ ap (map (part_in w)) (take_all i all past)

-- where no event was before, and these are the actors of the configuration
pub opening_few : {T E : Type 0} (r : Result T E) (c : Configuration) (turns n : ℕ) (old new : List Event) → old ≡ [] → n ≡ turn_in c
    → OnOk r (AtMost (turns * n) old new) → OnOk r (length new ≤ turns * turn_in c)
opening_few (Ok t) c turns n old new none same few =
    let most : turns * n ≡ turns * turn_in c = ap (λ (k : ℕ). turns * k) same in
    let start : length old ≡ 0 = ap length none in
    omega (arith, few, most, start)
opening_few (Err e) c turns n old new none same few = tt

-- ---- the actors of a configuration

few_if : {S : Type 0} (o : Option (Seated S)) (ts : List (Tick × ℕ)) (n : ℕ) → length ts ≤ n → length (timers_if o ts) ≤ n
few_if None ts n few = omega arith
few_if (Some p) ts n few = few

module _ (w : WorldState) where
  replica_part : (i : ℕ) → part_in w (actors.Replica i) ≤ 4
  replica_part i =
      let few : length (timers_of w (actors.Replica i)) ≤ 3 = few_if (slice_get w.replicas i) _ 3 (omega arith) in omega (arith, few)

  sequencer_part : (i : ℕ) → part_in w (actors.Sequencer i) ≤ 1
  sequencer_part i =
      let few : length (timers_of w (actors.Sequencer i)) ≤ 0 = few_if (slice_get w.others.sequencers i) _ 0 (omega arith) in
      omega (arith, few)

  controller_part : (i : ℕ) → part_in w (actors.Controller i) ≤ 3
  controller_part i =
      let few : length (timers_of w (actors.Controller i)) ≤ 2 = few_if (slice_get w.others.controllers i) _ 2 (omega arith) in
      omega (arith, few)

  client_part : (i : ℕ) → part_in w (actors.Client i) ≤ 3
  client_part i =
      let few : length (timers_of w (actors.Client i)) ≤ 2 = few_if (slice_get w.others.clients i) _ 2 (omega arith) in omega (arith, few)

  abbrev parts : List Actor → ℕ
  parts xs = sum (map (part_in w) xs)

  parts-append : (xs ys : List Actor) → parts (xs ++ ys) ≡ parts xs + parts ys
  parts-append xs ys = ap sum (map-append (part_in w) xs ys) ∙ sum-append (map (part_in w) xs) (map (part_in w) ys)

  parts_of_kind : (kind : ℕ → Actor) (k n : ℕ) → ((i : ℕ) → part_in w (kind i) ≤ k) → parts (numbered kind n) ≤ n * k
  parts_of_kind kind k zero each = let none : sum [] ≡ 0 = refl in omega (arith, none)
  parts_of_kind kind k (suc n) each =
      let before = parts_of_kind kind k n each in
      let both = parts-append (numbered kind n) (kind n ∷ []) in
      let one : parts (kind n ∷ []) ≡ part_in w (kind n) = sum-one (part_in w (kind n)) in
      omega (arith, before, both, one, each n, suc-mul n k)

pub turn_few : (c : Configuration) → is_configuration c ≡ true → turn_in c ≤ most_of_turn
turn_few c is =
    let w = opening c in
    let s = small_counts c is in
    let replicas : List Actor = numbered actors.Replica c.replicas in
    let sequencers : List Actor = numbered actors.Sequencer c.sequencers in
    let controllers : List Actor = numbered actors.Controller c.controllers in
    let clients : List Actor = numbered actors.Client c.clients in
    let first = parts-append w (replicas ++ sequencers ++ controllers) clients in
    let second = parts-append w (replicas ++ sequencers) controllers in
    let third = parts-append w replicas sequencers in
    let a : parts w replicas ≤ c.replicas * 4 = parts_of_kind w actors.Replica 4 c.replicas (replica_part w) in
    let b : parts w sequencers ≤ c.sequencers * 1 = parts_of_kind w actors.Sequencer 1 c.sequencers (sequencer_part w) in
    let d : parts w controllers ≤ c.controllers * 3 = parts_of_kind w actors.Controller 3 c.controllers (controller_part w) in
    let e : parts w clients ≤ c.clients * 3 = parts_of_kind w actors.Client 3 c.clients (client_part w) in
    omega (arith, first, second, third, a, b, d, e, s.replicas, s.sequencers, s.controllers, s.clients)
