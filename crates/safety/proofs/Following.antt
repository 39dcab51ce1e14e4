-- Lists of events: the real world follows the whole one, and so it did at each time before.
use Rattle.std.proofs.Common.{◌≡◌, ◌≤◌, ◌<◌, arith, ℕ, zero, suc, refl, sym, ap, subst, ◌∙◌, List, [], ◌∷◌, ◌++◌, append_assoc, true}
use Rattle.std.specs.Prelude.{map, Result, Ok, Err}
use Rattle.std.proofs.lemmas.List.{append-nil, map-append}
use Rattle.lemmas.proofs.Members.{Has-none}
use Rattle.execution_laws.proofs.Shortness.{result_fits}
use Rattle.nop_types.specs.Checkpoints.{KeepsTo}
use Rattle.nop_types.specs.Configuration.{Configuration, is_configuration}
use Rattle.nop_types.specs.Lines.{Line}
use Rattle.nop_types.specs.Lists.{Has}
use Rattle.nop_types.specs.Meaning.{Meaning}
use Rattle.nop_types.specs.declared.output.Actor.{Actor}
use Rattle.fragments.specs.Runs as fragments
use Rattle.replica_rows.specs.Within.{ResultsShort}
use Rattle.fragments.proofs.Came.{opening_came}
use Rattle.observer.specs.ObserverSteps as observer
use Rattle.replica_core.specs.ReplicaSteps as replica
use Rattle.schedule_text.specs.declared.event.Event.{Event}
use Rattle.schedule_text.specs.Fits.{EventFits, EventsFit}
use Rattle.world.specs.Seats.{Seated, seated}
use Rattle.world.specs.WorldSteps as world
use Rattle.world.specs.WorldSteps.{WorldState, Happened, Refusal, actor_of, numbered_seats, step, go_on, run_from}
use Rattle.network_laws.specs.Steps.{InNetwork}
use Rattle.network_laws.proofs.Networks.{opening_network}
use Rattle.network_laws.proofs.Replicas.{opening_in_network}
use Rattle.whole_world.specs.Archives.{IsArchive}
use Rattle.whole_world.specs.Whole as whole
use Rattle.whole_world.specs.Whole.{WholeReplica, WholeWorld, Brings, opening_replica, whole_step}
use Rattle.whole_world.specs.Safe.{BringsFits, AllFit, IsSafe}
use Rattle.whole_world.specs.Passed.{Passed, passes, passed, passed_from}
use Rattle.whole_world.proofs.Archives.{archive_opens, archives_go_on}
use Rattle.whole_world.proofs.Opening.{counted_get, counted_within}
use Rattle.whole_world.proofs.Safe.{whole_runs_are_safe}
use Rattle.whole_world.proofs.TrimmedRows.{rows_trim_where}
use Rattle.whole_world.proofs.Trimming.{safe_can_trim}
use Rattle.safety.specs.Following.{brought, rest_brings, brought_from, plain, trimmed_seat}
use Rattle.safety.proofs.Beside.{Beside, Listens}
use Rattle.safety.proofs.Steps.{Followed, brought_fits, event_follows}

-- ---- the opening

same_opening : {S : Type 0} (m : Meaning S) (c : Configuration) (n : ℕ)
    → map plain (numbered_seats (replica.opening c) n) ≡ map (trimmed_seat m) (numbered_seats (opening_replica c) n)
same_opening m c zero = refl
same_opening m c (suc n) =
    map-append plain (numbered_seats (replica.opening c) n) (seated (replica.opening c n) ∷ [])
    ∙ ap (λ (xs : List (Seated WholeReplica)). xs ++ seated (opening_replica c n) ∷ []) (same_opening m c n)
    ∙ sym (map-append (trimmed_seat m) (numbered_seats (opening_replica c) n) (seated (opening_replica c n) ∷ []))

none_carried : (x : fragments.Sent) → Has opening_network.carried.sent x → ⊥
none_carried x h = Has-none _ (opening_network.carried.spelled x h).has

few_observers : (config : Configuration) (n : ℕ) → is_configuration config ≡ true → n < config.observers → n ≤ 3
few_observers config n is less = grind (arith, is, less)

pub opening_beside : {S : Type 0} (m : Meaning S) (config : Configuration) → is_configuration config ≡ true
    → Beside m (world.opening config) [] (whole.opening config)
opening_beside m config is = record {
  alike = record {
    lines = refl;
    sent = refl;
    config = refl;
    replicas = same_opening m config config.replicas;
    others = refl;
  };
  travels = record {
    used = λ (r : ℕ). 0;
    posts = record {
      peer_messages = [];
      network = opening_network;
      peers = record { to = λ p h. h; from = λ p h. h };
      messages = record { to = λ x h. absurd (none_carried x h); from = λ x h. absurd (Has-none x h) };
    };
    fits = λ p h. absurd (Has-none p h);
    members = λ i q e.
        subst (InNetwork [] (λ (r : ℕ). 0) i) (counted_get (replica.opening config) config.replicas i q e)
        (opening_in_network config i is (counted_within (replica.opening config) config.replicas i q e));
  };
  archive = archive_opens config is;
  observers = λ i q e.
      let low : i < config.observers = counted_within (observer.opening config) config.observers i q e in
      subst (Listens []) (counted_get (observer.opening config) config.observers i q e)
      (record { number = few_observers config i is low; came = opening_came [] config.replicas; position = omega arith });
}

-- ---- at each time

module _ {S : Type 0} (m : Meaning S) (config : Configuration) where
  abbrev pub world_after : List (Actor × Brings) → WholeWorld
  world_after bs = (passed m config bs).world

  one_more : (p : Passed) (bs : List (Actor × Brings)) (b : Actor × Brings)
      → (passed_from m p (bs ++ b ∷ [])).world ≡ whole_step m (passed_from m p bs).world b.0 b.1
  one_more p [] b = refl
  one_more p (x ∷ bs) b = one_more (passes p (whole_step m p.world x.0 x.1)) bs b

  -- a real world with its lines, and the whole one to which these events led
  pub record Both (t : WorldState) (ls : List Line) (bs : List (Actor × Brings)) : Type 0 where
    pub fits : AllFit bs
    pub beside : Beside m t ls (world_after bs)

  -- some events led to this, and what they brought led the whole world beside it
  pub record Front (t : WorldState) (ls : List Line) (bs : List (Actor × Brings)) (es prefix : List Event) : Type 0 where
    pub happened : Happened
    pub is : run_from m ls t prefix ≡ Ok happened
    pub both : Both happened.world happened.lines (bs ++ brought_from m t prefix)
    pub rest : List (Actor × Brings)
    pub parts : brought_from m t es ≡ brought_from m t prefix ++ rest

  -- all of them, and so it was at each time before
  pub record Follows (t : WorldState) (ls : List Line) (bs : List (Actor × Brings)) (es : List Event) (h : Happened) : Type 0 where
    pub both : Both h.world h.lines (bs ++ brought_from m t es)
    pub before : (prefix rest : List Event) → es ≡ prefix ++ rest → Front t ls bs es prefix

fits_more : (bs : List (Actor × Brings)) (b : Actor × Brings) → AllFit bs → BringsFits b.1 → AllFit (bs ++ b ∷ [])
fits_more [] b all one = (one, tt)
fits_more (x ∷ bs) b all one = (all.0, fits_more bs b all.1 one)

module _ {S : Type 0} (m : Meaning S) (IsSound : S → Type 0) (keeps : KeepsTo m IsSound) (config : Configuration)
    (is_one : is_configuration config ≡ true) where
  short : ResultsShort m
  short = result_fits m IsSound keeps.opens keeps.stays keeps.short

  -- after one event
  pub both_then : (t : WorldState) (ls : List Line) (bs : List (Actor × Brings)) (x : Event) (h : Happened) → Both m config t ls bs
      → EventFits x → step m t x ≡ Ok h → Both m config h.world (ls ++ h.lines) (bs ++ (actor_of x, brought t x) ∷ [])
  both_then t ls bs x h both fits is =
      let b : Actor × Brings = (actor_of x, brought t x) in
      let w : WholeWorld = world_after m config bs in
      let fit : BringsFits b.1 = brought_fits t both.beside.travels.posts.network.datagrams x fits in
      let all : AllFit (bs ++ b ∷ []) = fits_more bs b both.fits fit in
      let next : world_after m config (bs ++ b ∷ []) ≡ whole_step m w b.0 b.1 = one_more m config _ bs b in
      let now : IsSafe m config bs = (whole_runs_are_safe m short config bs is_one both.fits).at_last in
      let then : IsSafe m config (bs ++ b ∷ []) = (whole_runs_are_safe m short config (bs ++ b ∷ []) is_one all).at_last in
      let followed : Followed m t ls w x h =
      event_follows m IsSound keeps t ls w now.conf now.shows.carries now.shows.tells
      (rows_trim_where m IsSound keeps w (safe_can_trim m config bs is_one now)) both.beside x h is
      (λ s i. then.shows.carries.spelled s (subst (λ (v : WholeWorld). Has v.sent s) (sym next) i)) in
      record {
        fits = all;
        beside = subst (λ (v : WholeWorld). Beside m h.world (ls ++ h.lines) v) (sym next) (record {
          alike = followed.alike;
          travels = followed.travels;
          archive = subst (λ (a : List _). IsArchive a (whole_step m w b.0 b.1)) (sym followed.archive)
              (archives_go_on m short config bs is_one both.fits t.archive both.beside.archive b.0 b.1 fit);
          observers = followed.observers;
        });
      }

  brought_rest : (x : Event) (es : List Event) (t : WorldState) (h : Happened) → step m t x ≡ Ok h
      → brought_from m t (x ∷ es) ≡ (actor_of x, brought t x) ∷ brought_from m h.world es
  brought_rest x es t h is =
      ap (λ (r : Result Happened Refusal). (actor_of x, brought t x) ∷ rest_brings r (λ v. brought_from m v es)) is

  run_rest : (x : Event) (es : List Event) (t : WorldState) (ls : List Line) (h : Happened) → step m t x ≡ Ok h
      → run_from m ls t (x ∷ es) ≡ run_from m (ls ++ h.lines) h.world es
  run_rest x es t ls h is = ap (λ (r : Result Happened Refusal). go_on m ls r (λ more v. run_from m more v es)) is

  none_followed : (t : WorldState) (ls : List Line) (bs : List (Actor × Brings)) → Both m config t ls bs
      → Follows m config t ls bs [] (record { world = t; lines = ls })
  none_followed t ls bs both = record { both = at_end; before = λ prefix rest split. by prefix rest split }
    where
      at_end : Both m config t ls (bs ++ [])
      at_end = subst (Both m config t ls) (sym (append-nil bs)) both

      by : (prefix rest : List Event) → [] ≡ prefix ++ rest → Front m config t ls bs [] prefix
      by [] rest split = record { happened = record { world = t; lines = ls }; is = refl; both = at_end; rest = []; parts = refl }
      by (y ∷ prefix) rest split = absurd cc

  one_followed : (x : Event) (es : List Event) (t : WorldState) (ls : List Line) (bs : List (Actor × Brings)) (g h : Happened)
      → step m t x ≡ Ok g → Both m config t ls bs
      → Follows m config g.world (ls ++ g.lines) (bs ++ (actor_of x, brought t x) ∷ []) es h → Follows m config t ls bs (x ∷ es) h
  one_followed x es t ls bs g h is both on = record {
    both = subst (Both m config h.world h.lines) (sym (joined es)) on.both;
    before = λ prefix rest split. by prefix rest split;
  }
    where
      b : Actor × Brings
      b = (actor_of x, brought t x)

      joined : (fs : List Event) → bs ++ brought_from m t (x ∷ fs) ≡ (bs ++ b ∷ []) ++ brought_from m g.world fs
      joined fs = ap (λ (xs : List (Actor × Brings)). bs ++ xs) (brought_rest x fs t g is)
          ∙ sym (append_assoc bs (b ∷ []) (brought_from m g.world fs))

      by : (prefix rest : List Event) → x ∷ es ≡ prefix ++ rest → Front m config t ls bs (x ∷ es) prefix
      by [] rest split = record {
        happened = record { world = t; lines = ls };
        is = refl;
        both = subst (Both m config t ls) (sym (append-nil bs)) both;
        rest = brought_from m t (x ∷ es);
        parts = refl;
      }
      by (y ∷ prefix) rest split =
          let same : x ≡ y = cc in
          let others : es ≡ prefix ++ rest = cc in
          let f = on.before prefix rest others in
          subst (λ (z : Event). Front m config t ls bs (x ∷ es) (z ∷ prefix)) same (record {
            happened = f.happened;
            is = run_rest x prefix t ls g is ∙ f.is;
            both = subst (Both m config f.happened.world f.happened.lines) (sym (joined prefix)) f.both;
            rest = f.rest;
            parts = brought_rest x es t g is ∙ ap (λ (xs : List (Actor × Brings)). b ∷ xs) f.parts
                ∙ ap (λ (xs : List (Actor × Brings)). xs ++ f.rest) (sym (brought_rest x prefix t g is));
          })

  followed_then : (x : Event) (es : List Event) (t : WorldState) (ls : List Line) (bs : List (Actor × Brings)) (h : Happened)
      → EventsFit (x ∷ es) → Both m config t ls bs
      → ((v : WorldState) (more : List Line) (cs : List (Actor × Brings)) → Both m config v more cs → run_from m more v es ≡ Ok h
      → Follows m config v more cs es h)
      → (r : Result Happened Refusal) → step m t x ≡ r → go_on m ls r (λ more v. run_from m more v es) ≡ Ok h
      → Follows m config t ls bs (x ∷ es) h
  followed_then x es t ls bs h fits both rest (Err refusal) is e = absurd cc
  followed_then x es t ls bs h fits both rest (Ok g) is e =
      one_followed x es t ls bs g h is both
      (rest g.world (ls ++ g.lines) (bs ++ (actor_of x, brought t x) ∷ []) (both_then t ls bs x g both fits.0 is) e)

  pub events_follow : (es : List Event) (t : WorldState) (ls : List Line) (bs : List (Actor × Brings)) (h : Happened) → EventsFit es
      → Both m config t ls bs → run_from m ls t es ≡ Ok h → Follows m config t ls bs es h
  events_follow [] t ls bs h fits both e =
      let same : record { world = t; lines = ls } ≡ h = cc in subst (Follows m config t ls bs []) same (none_followed t ls bs both)
  events_follow (x ∷ es) t ls bs h fits both e =
      followed_then x es t ls bs h fits both (λ v more cs a g. events_follow es v more cs h fits.1 a g) (step m t x) refl e

  -- all events of a run
  pub run_follows : (es : List Event) (h : Happened) → EventsFit es → world.run m config es ≡ Ok h
      → Follows m config (world.opening config) [] [] es h
  run_follows es h fits e =
      events_follow es (world.opening config) [] [] h fits (record { fits = tt; beside = opening_beside m config is_one }) e
