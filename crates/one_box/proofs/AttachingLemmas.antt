-- The actors of a cluster, and their links.
use Rattle.std.proofs.Common.{◌≡◌, ℕ, zero, suc, ◌+◌, ◌<◌, ◌≤◌, List, [], ◌∷◌, ◌++◌, length, map, take, drop, Option, Some, None}
use Rattle.std.proofs.Common.{refl, sym, ap, subst, ◌∙◌, arith, add-one, append_assoc, length-append}
use Rattle.std.specs.Prelude.{slice_get}
use Rattle.std.proofs.lemmas.List.{map-append, take_all}
use Rattle.lemmas.proofs.Places.{Splits-at}
use Rattle.nop_types.specs.Configuration.{Configuration}
use Rattle.nop_types.specs.declared.output.Actor.{Actor}
use Rattle.outside.specs.Ports.{GivesNext, next_link}
use Rattle.nop_types.specs.declared.input.Tick.{Tick}
use Rattle.outside.specs.declared.link.PollAnswer.{PollAnswer}
use Rattle.outside.specs.declared.link.LinkCall.{LinkCall}
use Rattle.udp_node.specs.declared.address.Address.{Address}
use Rattle.udp_node.specs.declared.firing.Timer.{Timer}
use Rattle.udp_node.specs.Sends.{LinkSide, Sends, side}
use Rattle.udp_node.specs.Timing.{armed}
use Rattle.udp_node.proofs.SendLemmas.{no_sends}
use Rattle.world.specs.Lookups.{timers_if, timers_by, timers_of}
use Rattle.world.specs.Others.{Kind, Sequencers, seats, timers, Who, AReplica, Another, who}
use Rattle.world.specs.Seats.{Seated}
use Rattle.world.specs.WorldSteps.{WorldState, opening}
use Rattle.one_box.specs.declared.node.BoxActor as code
use Rattle.one_box.specs.Actors.{numbered}
use Rattle.one_box.specs.Attaching.{IsFresh, AttachesOne, AttachesAll, AttachingOn, Holds, HasRoom, place_for}
use Rattle.one_box.specs.ClusterRun.{BoxActor, opening_node, opening_nodes}
use Rattle.one_box.specs.Showing.{LinkView, Shows, AllShow, AllLostFit, place_of}

-- ---- the actors of a kind

pub numbered_more : (kind : ℕ → Actor) (first old new : List Actor) (i : ℕ) → old ≡ first ++ numbered kind i → new ≡ old ++ kind i ∷ []
    → new ≡ first ++ numbered kind (i + 1)
numbered_more kind first old new i so_far pushed =
    pushed ∙ ap (λ (xs : List Actor). xs ++ kind i ∷ []) so_far ∙ append_assoc first (numbered kind i) (kind i ∷ [])
    ∙ ap (λ (n : ℕ). first ++ numbered kind n) (sym (add-one i))

-- ---- timers

few_if : {S : Type 0} (o : Option (Seated S)) (ts : List (Tick × ℕ)) → length ts ≤ 255 → length (timers_if o ts) ≤ 255
few_if None ts few = omega arith
few_if (Some p) ts few = few

few_of : (k : Kind) → length (timers k) ≤ 255
few_of Sequencers = omega arith
few_of _ = omega arith

few_by : (w : WorldState) (x : Who) → length (timers_by w x) ≤ 255
few_by w (AReplica i) = few_if (slice_get w.replicas i) _ (omega arith)
few_by w (Another k i) = few_if (slice_get (seats k w.others) i) (timers k) (few_of k)
few_by w _ = omega arith

pub few_timers : (w : WorldState) (a : Actor) → length (timers_of w a) ≤ 255
few_timers w a = few_by w (who a)

-- ---- links

drop_one : (n : ℕ) (polls : List (List PollAnswer)) → drop n (drop 1 polls) ≡ drop (suc n) polls
drop_one zero [] = refl
drop_one (suc n) [] = refl
drop_one n (p ∷ polls) = refl

drop_then : (n : ℕ) (polls : List (List PollAnswer)) → drop 1 (drop n polls) ≡ drop (suc n) polls
drop_then zero polls = refl
drop_then (suc n) [] = refl
drop_then (suc n) (p ∷ polls) = drop_then n polls

module _ {L : Type 0} (v : LinkView L) (base : ℕ) (config : Configuration) (now : ℕ) where
  opening_push : (actors : List Actor) (a : Actor) (polls : List (List PollAnswer))
      → opening_nodes base config now (actors ++ a ∷ []) polls
      ≡ opening_nodes base config now actors polls ++ opening_node base config now a (next_link (drop (length actors) polls)) ∷ []
  opening_push [] a polls = refl
  opening_push (x ∷ actors) a polls =
      ap (λ (ns : List BoxActor). opening_node base config now x (next_link polls) ∷ ns)
      (opening_push actors a (drop 1 polls)
      ∙ ap (λ (ps : List (List PollAnswer)). opening_nodes base config now actors (drop 1 polls)
      ++ opening_node base config now a (next_link ps) ∷ []) (drop_one (length actors) polls))

  shown_push : (ns : List BoxActor) (xs : List (code.BoxActor L)) (n : BoxActor) (x : code.BoxActor L) → AllShow v ns xs → Shows v n x
      → AllShow v (ns ++ n ∷ []) (xs ++ x ∷ [])
  shown_push [] [] n x all one = (one, tt)
  shown_push [] (y ∷ xs) n x all one = absurd all
  shown_push (k ∷ ns) [] n x all one = absurd all
  shown_push (k ∷ ns) (y ∷ xs) n x all one = (all.0, shown_push ns xs n x all.1 one)

  fresh_side : (sent : Option (List LinkCall)) (lost losses : ℕ) → sent ≡ Some [] → lost ≡ 0 → losses ≡ 0
      → Sends [] (side (Some []) 0 0) (side sent lost losses)
  fresh_side sent lost losses s l k =
      let same : side (Some []) 0 0 ≡ side sent lost losses =
      sym (ap (λ (o : Option (List LinkCall)). side o lost losses) s ∙ ap (λ (n : ℕ). side (Some []) n losses) l
      ∙ ap (side (Some []) 0) k) in
      subst (λ (b : LinkSide). Sends [] (side (Some []) 0 0) b) same (no_sends (side (Some []) 0 0))

  fresh_shows : (a : Actor) (polls : List (List PollAnswer)) (x : code.BoxActor L) (new : Option (List (List PollAnswer)))
      → IsFresh v (record { base = base; own = a; config = config }) (map (armed now) (timers_of (opening config) a)) x
      → GivesNext (Some polls) new (v.answers x.link) (v.trace x.link) → Shows v (opening_node base config now a (next_link polls)) x
  fresh_shows a polls x new fresh gives = record {
    at = fresh.at;
    next_op = fresh.next_op;
    timers = fresh.timers;
    answers = gives.1;
    sends = fresh_side (v.trace x.link) x.lost (v.losses x.link) gives.2 fresh.lost fresh.losses;
  }

  pub attaching_first : (to_come : Option (List (List PollAnswer))) (xs : List (code.BoxActor L)) → xs ≡ []
      → AttachingOn v base config now [] to_come to_come xs
  attaching_first None xs none = tt
  attaching_first (Some polls) xs none = (refl, subst (AllShow v []) (sym none) tt)

  pub attaching_more : (all : List Actor) (i : ℕ) (a : Actor) (to_come mid new : Option (List (List PollAnswer)))
      (xs ys : List (code.BoxActor L)) (w : WorldState) → slice_get all i ≡ Some a → w ≡ opening config
      → AttachesOne v (record { base = base; own = a; config = config }) (map (armed now) (timers_of w a)) mid new xs ys
      → AttachingOn v base config now (take i all) to_come mid xs → AttachingOn v base config now (take (i + 1) all) to_come new ys
  attaching_more all i a None mid new xs ys w there is one before = tt
  attaching_more all i a (Some polls) mid new xs ys w there is one before =
      let actors : List Actor = take i all in
      let prefix : take (i + 1) all ≡ actors ++ a ∷ [] = ap (λ (k : ℕ). take k all) (add-one i) ∙ (Splits-at all i a there).prefix in
      let left : List (List PollAnswer) = drop (length actors) polls in
      let gives : GivesNext (Some left) new (v.answers one.node.link) (v.trace one.node.link) =
      subst (λ (o : Option (List (List PollAnswer))). GivesNext o new (v.answers one.node.link) (v.trace one.node.link)) before.0
      one.content in
      let place : Address = record { base = base; own = a; config = config } in
      let fresh : IsFresh v place (map (armed now) (timers_of (opening config) a)) one.node =
      subst (λ (u : WorldState). IsFresh v place (map (armed now) (timers_of u a)) one.node) is one.fresh in
      let ns : List BoxActor = opening_nodes base config now actors polls in
      let k : BoxActor = opening_node base config now a (next_link left) in
      let shown : AllShow v (ns ++ k ∷ []) (xs ++ one.node ∷ []) =
      shown_push ns xs k one.node before.1 (fresh_shows a left one.node new fresh gives) in
      let all_shown : AllShow v (opening_nodes base config now (actors ++ a ∷ []) polls) ys =
      subst (AllShow v (opening_nodes base config now (actors ++ a ∷ []) polls)) (sym one.added)
      (subst (λ (ms : List BoxActor). AllShow v ms (xs ++ one.node ∷ [])) (sym (opening_push actors a polls)) shown) in
      let count : length (actors ++ a ∷ []) ≡ suc (length actors) = omega (arith, length-append actors (a ∷ [])) in
      let later : new ≡ Some (drop (length (actors ++ a ∷ [])) polls) =
      gives.0 ∙ ap Some (drop_then (length actors) polls ∙ ap (λ (k : ℕ). drop k polls) (sym count)) in
      subst (λ (prefix_actors : List Actor). AttachingOn v base config now prefix_actors (Some polls) new ys) (sym prefix) (later, all_shown)

  pub attached_all : (all : List Actor) (i : ℕ) (to_come new : Option (List (List PollAnswer))) (xs : List (code.BoxActor L)) → length all ≤ i
      → AttachingOn v base config now (take i all) to_come new xs → AttachesAll v base config now all to_come xs
  attached_all all i None new xs past on = tt
  attached_all all i (Some polls) new xs past on =
      subst (λ (actors : List Actor). AllShow v (opening_nodes base config now actors polls) xs) (take_all i all past) on.1

  pub places_more : (all : List Actor) (i : ℕ) (a : Actor) (mid new : Option (List (List PollAnswer))) (xs ys : List (code.BoxActor L))
      (ts : List Timer) → slice_get all i ≡ Some a → AttachesOne v (record { base = base; own = a; config = config }) ts mid new xs ys
      → map (place_of v) xs ≡ map (place_for base config) (take i all)
      → map (place_of v) ys ≡ map (place_for base config) (take (i + 1) all)
  places_more all i a mid new xs ys ts there one before =
      let prefix : take (i + 1) all ≡ take i all ++ a ∷ [] = ap (λ (k : ℕ). take k all) (add-one i) ∙ (Splits-at all i a there).prefix in
      let place : place_of v one.node ≡ place_for base config a =
      ap (λ (p : Address). (p, v.port one.node.link)) one.fresh.at
      ∙ ap (λ (k : ℕ). (record { base = base; own = a; config = config }, k)) one.fresh.port in
      ap (map (place_of v)) one.added ∙ map-append (place_of v) xs (one.node ∷ [])
      ∙ ap (λ (ps : List (Address × ℕ)). ps ++ place_of v one.node ∷ []) before
      ∙ ap (λ (p : Address × ℕ). map (place_for base config) (take i all) ++ p ∷ []) place
      ∙ sym (ap (map (place_for base config)) prefix ∙ map-append (place_for base config) (take i all) (a ∷ []))

  pub places_all : (all : List Actor) (i : ℕ) (xs : List (code.BoxActor L)) → length all ≤ i
      → map (place_of v) xs ≡ map (place_for base config) (take i all) → map (place_of v) xs ≡ map (place_for base config) all
  places_all all i xs past places = places ∙ ap (map (place_for base config)) (take_all i all past)

-- what was counted as lost stays counted where a fresh link comes
pub lost_push : {L : Type 0} (v : LinkView L) (xs ys : List (code.BoxActor L)) (x : code.BoxActor L) → ys ≡ xs ++ x ∷ [] → x.lost ≡ 0
    → AllLostFit v xs → AllLostFit v ys
lost_push {L} v xs ys x added none all = subst (AllLostFit v) (sym added) (behind xs all)
  where
    behind : (zs : List (code.BoxActor L)) → AllLostFit v zs → AllLostFit v (zs ++ x ∷ [])
    behind [] fits = (omega (arith, none), tt)
    behind (z ∷ zs) fits = (fits.0, behind zs fits.1)

-- ---- how many links are held

-- a link that was attached and given back
pub given_back : {A : Type 0} (first mid last : ℕ) (det here there : List A) (x : A) → mid ≡ first + 1 → here ≡ det → last ≡ mid
    → there ≡ here ++ x ∷ [] → last + length det ≡ first + length there
given_back first mid last det here there x attached same held back =
    let count : length there ≡ length here + 1 = ap length back ∙ length-append here (x ∷ []) in
    omega (arith, count, attached, held, ap length same)

module _ {A B : Type 0} (first mid last : ℕ) (det here there : List A) (xs ys : List B) where
  pub holds_stays : ys ≡ xs → last + length here ≡ mid + length there → Holds first det mid here xs → Holds first det last there ys
  holds_stays same balance holds = omega (arith, ap length same, balance, holds)

  pub holds_more : (x : B) → ys ≡ xs ++ x ∷ [] → last ≡ mid + 1 → there ≡ here → Holds first det mid here xs → Holds first det last there ys
  holds_more x added attached given holds =
      let count : length ys ≡ length xs + 1 = ap length added ∙ length-append xs (x ∷ []) in
      omega (arith, count, attached, ap length given, holds)

module _ {A B : Type 0} (mid last : ℕ) (here there : List A) (xs ys : List B) where
  pub room_stays : ys ≡ xs → last + length here ≡ mid + length there → HasRoom mid here xs → HasRoom last there ys
  room_stays same balance room some =
      let count : length ys ≡ length xs = ap length same in
      let more : length here + length xs ≤ mid = room (omega (arith, some, count)) in
      omega (arith, count, balance, more)

  pub room_more : (x : B) → ys ≡ xs ++ x ∷ [] → last ≡ mid + 1 → there ≡ here → length there < last → HasRoom mid here xs
      → HasRoom last there ys
  room_more x added attached given one room some = by (length xs) refl
    where
      count : length ys ≡ length xs + 1
      count = ap length added ∙ length-append xs (x ∷ [])

      by : (n : ℕ) → length xs ≡ n → length there + length ys ≤ last
      by zero is = omega (arith, count, is, one)
      by (suc n) is =
          let more : length here + length xs ≤ mid = room (omega (arith, is)) in
          omega (arith, count, attached, ap length given, more)
