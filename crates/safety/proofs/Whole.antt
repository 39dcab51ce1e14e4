-- Each run is safe: the whole world is, and the real one follows it.
use Rattle.std.proofs.Common.{◌≡◌, ℕ, zero, suc, ◌+◌, ◌≤◌, ◌<◌, true, Option, Some, None, refl, sym, ap, subst, ◌∙◌, arith}
use Rattle.std.proofs.Common.{length, List, [], ◌∷◌, ◌++◌, take, drop}
use Rattle.std.specs.Prelude.{Result, Ok, Err, ◌^◌, slice_get}
use Rattle.std.proofs.lemmas.List.{drop_all}
use Rattle.nop_types.specs.Checkpoints.{KeepsTo}
use Rattle.nop_types.specs.Configuration.{Configuration, is_configuration}
use Rattle.nop_types.specs.Histories.{history_of}
use Rattle.nop_types.specs.Legality.{Legal}
use Rattle.nop_types.specs.Lines.{Line}
use Rattle.nop_types.specs.Lists.{Has}
use Rattle.nop_types.specs.Logs.{Log, Trimmed, length_of}
use Rattle.nop_types.specs.Meaning.{Meaning}
use Rattle.nop_types.specs.Views.{leader_of}
use Rattle.nop_types.specs.declared.limits.TheConstants.{MAX_LENGTH}
use Rattle.nop_types.specs.declared.output.Actor.{Actor}
use Rattle.nop_types.specs.declared.request.Entry.{Entry}
use Rattle.lemmas.proofs.Places.{Splits-at}
use Rattle.client_quorum.specs.declared.state.ClientState.{ClientState}
use Rattle.execution_laws.proofs.Shortness.{result_fits}
use Rattle.execution_laws.specs.Legality.{StandsFrom}
use Rattle.protocol_sync.specs.Laws.{OpenIsNotStaleIn}
use Rattle.trimming.specs.Trimming.{trim}
use Rattle.trimming.proofs.Logs.{length_trims}
use Rattle.replica_core.specs.ReplicaSteps.{Replica}
use Rattle.read_laws.proofs.Runs.{runs_receive, runs_read_right}
use Rattle.replica_rows.specs.Within.{ResultsShort}
use Rattle.schedule_text.specs.declared.event.Event.{Event}
use Rattle.schedule_text.specs.Fits.{EventFits, EventsFit}
use Rattle.world.specs.Archive.{with_archive}
use Rattle.world.specs.Others.{Clients, Others}
use Rattle.world.specs.Seats.{Seated}
use Rattle.world.specs.SeatOutcomes.{Refuses}
use Rattle.world.specs.Agreement.{Agreed}
use Rattle.world.specs.WorldSteps as world
use Rattle.world.specs.WorldSteps.{WorldState, Happened, Refusal, step, go_on, run_from, main_log, main_view, log_of, history}
use Rattle.world.specs.declared.step_error.StepError.{StepError}
use Rattle.world.specs.declared.step_error.StepError.TheVariants as errors
use Rattle.whole_world.specs.Passed as whole_passed
use Rattle.whole_world.specs.Safe.{IsSafe}
use Rattle.whole_world.specs.Trimming.{CanTrim}
use Rattle.whole_world.specs.Whole as whole
use Rattle.whole_world.specs.Whole.{WholeReplica, WholeWorld, Brings, whole_run}
use Rattle.whole_world.proofs.Safe.{whole_runs_are_safe}
use Rattle.whole_world.proofs.Trimming.{safe_can_trim}
use Rattle.safety.specs.Following.{spoken, plain, trimmed_seat, all_brought, whole_after, FollowsWhole, RunsFollowWhole}
use Rattle.safety.specs.Observers.{ObserversReadTheHistory}
use Rattle.safety.specs.Reads.{Reads}
use Rattle.safety.specs.Safe.{AcceptedStand, OpenIsNotStale, Followed, SafelyPassed, RunsAreSafe, LeadTo, IsRefusedBy, Running}
use Rattle.safety.proofs.Agreement.{agree}
use Rattle.safety.proofs.Following.{Both, Front, Follows, world_after, run_follows}
use Rattle.safety.proofs.KeptLogs.{IsKept, real_is_whole, same_text, main_same}
use Rattle.safety.proofs.Observed.{came_reads, received_is_right, received_reads}
use Rattle.safety.proofs.Replicas.{WholeSeat, whole_seat}
use Rattle.safety.proofs.SpokenLines.{legal_with_all}
use Rattle.safety.proofs.Travels.{joins_trimmed}

module _ {S : Type 0} (m : Meaning S) (IsSound : S → Type 0) (keeps : KeepsTo m IsSound) (config : Configuration)
    (is : is_configuration config ≡ true) where
  short : ResultsShort m
  short = result_fits m IsSound keeps.opens keeps.stays keeps.short

  same_world : (q : whole_passed.Passed) (bs : List (Actor × Brings)) → (whole_passed.passed_from m q bs).world ≡ whole_run m q.world bs
  same_world q [] = refl
  same_world q (b ∷ bs) = same_world (whole_passed.passes q (whole.whole_step m q.world b.0 b.1)) bs

  is_after : (bs : List (Actor × Brings)) → world_after m config bs ≡ whole_run m (whole.opening config) bs
  is_after bs = same_world (whole_passed.first config) bs

  safe_at : (bs : List (Actor × Brings)) (t : WorldState) (ls : List Line) → Both m config t ls bs → IsSafe m config bs
  safe_at bs t ls both = (whole_runs_are_safe m short config bs is both.fits).at_last

  -- what is synchronised of each whole replica is in the archive
  kept : (bs : List (Actor × Brings)) (t : WorldState) (ls : List Line) → Both m config t ls bs → (i : ℕ) (q : Seated WholeReplica)
      → slice_get (world_after m config bs).replicas i ≡ Some q → IsKept t.archive q
  kept bs t ls both i q e =
      let can : CanTrim m (world_after m config bs) = safe_can_trim m config bs is (safe_at bs t ls both) in
      let within = can.within.replicas i q e in
      record { points = within.points; within = within.sync_point; prefix = both.beside.archive.prefixes i q e }

  follows_at : (bs : List (Actor × Brings)) (t : WorldState) (ls : List Line) → Both m config t ls bs
      → FollowsWhole m (record { world = t; lines = ls }) (world_after m config bs)
  follows_at bs t ls both =
      let alike = both.beside.alike in
      let w : WholeWorld = world_after m config bs in
      record {
        lines = alike.lines;
        sent = alike.sent;
        used = both.beside.travels.used;
        counters = λ i p at. (both.beside.travels.members i p at).messages;
        fragments = both.beside.travels.posts;
        config = alike.config;
        replicas = alike.replicas;
        others = alike.others;
        kept = λ i p at. (both.beside.travels.members i p at).came;
        logs = λ i p q at there. (let x : WholeSeat m w.replicas i p = whole_seat m t.replicas w.replicas i p alike.replicas at in
            let same : x.seat ≡ q = (let e : Some x.seat ≡ Some q = sym x.there ∙ there in cc) in
            real_is_whole m t.archive p q (subst (λ (y : Seated WholeReplica). plain p ≡ trimmed_seat m y) same x.same)
            (kept bs t ls both i q there));
        joins = joins_trimmed m t.sent t.replicas w both.beside.travels;
        main = main_same m t ls w alike (kept bs t ls both);
        history = ap history_of (main_same m t ls w alike (kept bs t ls both));
        text = same_text m t.archive 0 t.replicas w.replicas alike.replicas (kept bs t ls both);
      }

  module _ (es : List Event) (h : Happened) (fit : EventsFit es) (e : world.run m config es ≡ Ok h) where
    follows : Follows m config (world.opening config) [] [] es h
    follows = run_follows m IsSound keeps config is es h fit e

    at_last : IsSafe m config (all_brought m config es)
    at_last = safe_at (all_brought m config es) h.world h.lines follows.both

    pub follows_whole : FollowsWhole m h (whole_after m config es)
    follows_whole = subst (FollowsWhole m h) (is_after (all_brought m config es))
        (follows_at (all_brought m config es) h.world h.lines follows.both)

    followed : (prefix rest : List Event) → es ≡ prefix ++ rest → Followed m config es prefix
    followed prefix rest split =
        let f : Front m config (world.opening config) [] [] es prefix = follows.before prefix rest split in
        record {
          happened = f.happened;
          is = f.is;
          follows = subst (FollowsWhole m f.happened) (is_after (all_brought m config prefix))
              (follows_at (all_brought m config prefix) f.happened.world f.happened.lines f.both);
          rest = f.rest;
          parts = f.parts;
        }

    legal : Legal m h.lines (history h.world)
    legal =
        let f : FollowsWhole m h (world_after m config (all_brought m config es)) =
        follows_at (all_brought m config es) h.world h.lines follows.both in
        legal_with_all m h.lines (history h.world)
        (subst (λ (hist : List _). Legal m (spoken h.lines) hist) (sym f.history)
        (subst (λ (ls : List Line). Legal m ls (whole.history (world_after m config (all_brought m config es)))) (sym f.lines) at_last.legal))

    agreed : Agreed h.world
    agreed =
        let bs = all_brought m config es in
        let w : WholeWorld = world_after m config bs in
        let f : FollowsWhole m h w = follows_at bs h.world h.lines follows.both in
        agree m h.world w f.replicas f.logs f.main at_last.agreed

    accepted_slots : AcceptedStand m h.world
    accepted_slots k p a at has =
        let bs = all_brought m config es in
        let w : WholeWorld = world_after m config bs in
        let f : FollowsWhole m h w = follows_at bs h.world h.lines follows.both in
        let there : slice_get w.others.clients k ≡ Some p = subst (λ (o : Others). slice_get o.clients k ≡ Some p) f.others at in
        let shown : at_last.conf.clients k ≡ p.state.requests = at_last.shows.actors.others Clients k p there in
        let known : Has (at_last.conf.clients k).recent a = subst (λ (s : ClientState). Has s.recent a) (sym shown) has in
        subst (λ (l : List Entry). StandsFrom m l k a.id a.slot a.result) (sym f.main) (at_last.accepted k a known)

    not_stale : OpenIsNotStale h.world
    not_stale i k a p at there =
        let bs = all_brought m config es in
        let w : WholeWorld = world_after m config bs in
        let f : FollowsWhole m h w = follows_at bs h.world h.lines follows.both in
        let x : WholeSeat m w.replicas i a = whole_seat m h.world.replicas w.replicas i a f.replicas at in
        let same : with_archive h.world.archive a.state.state.log ≡ x.seat.state.state.log.entries = f.logs i a x.seat at x.there in
        let client : slice_get w.others.clients k ≡ Some p = subst (λ (o : Others). slice_get o.clients k ≡ Some p) f.others there in
        subst (λ (l : List Entry). OpenIsNotStaleIn l k p.state.requests) (sym same) (at_last.not_stale i k x.seat p x.there client)

    -- ---- reads

    -- the main log has fewer than 2^32 slots
    log_few : (i : ℕ) (o : Option (Seated Replica)) → slice_get h.world.replicas i ≡ o → length (log_of h.world.archive o) < 2 ^ 32
    log_few i None found = omega arith
    log_few i (Some p) found =
        let bs : List (Actor × Brings) = all_brought m config es in
        let w : WholeWorld = world_after m config bs in
        let both : Both m config h.world h.lines bs = follows.both in
        let x : WholeSeat m w.replicas i p = whole_seat m h.world.replicas w.replicas i p both.beside.alike.replicas found in
        let k : IsKept h.world.archive x.seat = kept bs h.world h.lines both i x.seat x.there in
        let l : Log = x.seat.state.state.log in
        let log : p.state.state.log ≡ trim m l = ap (λ (q : Seated WholeReplica). q.state.state.log) x.same in
        let all : with_archive h.world.archive p.state.state.log ≡ l.entries = real_is_whole m h.world.archive p x.seat x.same k in
        let len : length_of Trimmed (trim m l) ≡ length l.entries =
        length_trims m l (let a = k.points in let b = k.within in omega (arith, a, b)) in
        let limit : length_of Trimmed p.state.state.log ≤ MAX_LENGTH = (both.beside.travels.members i p found).within.log.limit in
        let same : length (with_archive h.world.archive p.state.state.log) ≡ length_of Trimmed p.state.state.log =
        ap (λ (xs : List Entry). length xs) all ∙ sym len ∙ ap (λ (y : Log). length_of Trimmed y) (sym log) in
        omega (arith, same, limit)

    main_few : length (main_log h.world) < 2 ^ 32
    unfolding main_log
    main_few =
        log_few (leader_of (main_view h.world) h.world.config.replicas)
        (slice_get h.world.replicas (leader_of (main_view h.world) h.world.config.replicas)) refl

    reads : Reads m config at_last.conf h
    reads = record {
      lines = runs_read_right m IsSound keeps config es h (main_log h.world) is fit e
          (record { few = main_few; right = received_reads m IsSound keeps config es h at_last follows_whole });
      received = runs_receive m config es h is fit e;
      observers = λ i p at. received_is_right m IsSound keeps config es h at_last follows_whole i p.state
          (runs_receive m config es h is fit e i p at);
    }

    pub safely : SafelyPassed m config es h
    unfolding at_last safe_at
    safely = record {
      whole = whole_runs_are_safe m short config (all_brought m config es) is follows.both.fits;
      follows = follows_whole;
      before = followed;
      safe = record {
        agreed = agreed;
        legal = legal;
      };
      accepted_slots = accepted_slots;
      not_stale = not_stale;
      reads = reads;
    }

pub runs_are_safe : {S : Type 0} (m : Meaning S) (IsSound : S → Type 0) → KeepsTo m IsSound → RunsAreSafe m
runs_are_safe m IsSound keeps config es h is fit e = safely m IsSound keeps config is es h fit e

pub runs_follow_whole : {S : Type 0} (m : Meaning S) (IsSound : S → Type 0) → KeepsTo m IsSound → RunsFollowWhole m
runs_follow_whole m IsSound keeps config es h is fit e = follows_whole m IsSound keeps config is es h fit e

pub observers_read_the_history : {S : Type 0} (m : Meaning S) (IsSound : S → Type 0) → KeepsTo m IsSound → ObserversReadTheHistory m
observers_read_the_history m IsSound keeps config es h is fit e i came may =
    let p : SafelyPassed m config es h = runs_are_safe m IsSound keeps config es h is fit e in
    came_reads m IsSound keeps config es h p.whole.at_last p.follows i came may

-- ---- the loop over the events

-- one more event is in its ranges
fit_more : (i : ℕ) (es : List Event) (e : Event) → slice_get es i ≡ Some e → EventsFit (take i es) → EventFits e
    → EventsFit (take (suc i) es)
fit_more i [] e at fits one = absurd cc
fit_more zero (x ∷ es) e at fits one = let same : x ≡ e = cc in (subst EventFits (sym same) one, tt)
fit_more (suc i) (x ∷ es) e at fits one = (fits.0, fit_more i es e at fits.1 one)

running_next : {S : Type 0} (m : Meaning S) (config : Configuration) (es : List Event) (w v : WorldState) (more : List Line) (i : ℕ)
    (e : Event) → slice_get es i ≡ Some e → EventFits e → step m w e ≡ Ok (record { world = v; lines = more }) → Running m config es w i
    → Running m config es v (suc i)
running_next m config es w v more i e at fits is r =
    let rest : drop i es ≡ e ∷ drop (suc i) es = (Splits-at es i e at).back in
    let on : run_from m r.lines w (e ∷ drop (suc i) es) ≡ run_from m (r.lines ++ more) v (drop (suc i) es) =
    ap (λ (x : Result Happened Refusal). go_on m r.lines x (λ ls u. run_from m ls u (drop (suc i) es))) is in
    record {
      lines = r.lines ++ more;
      goes = sym on ∙ ap (λ (xs : List Event). run_from m r.lines w xs) (sym rest) ∙ r.goes;
      fit = fit_more i es e at r.fit fits;
    }

pub running_on : {S : Type 0} (m : Meaning S) (config : Configuration) (es : List Event) (w v : WorldState) (more : List Line) (i : ℕ)
    (e : Event) → slice_get es i ≡ Some e → EventFits e → step m w e ≡ Ok (record { world = v; lines = more }) → Running m config es w i
    → Running m config es v (i + 1)
running_on m config es w v more i e at fits is r =
    let next : suc i ≡ i + 1 = omega arith in
    subst (Running m config es v) next (running_next m config es w v more i e at fits is r)

-- the first event that is refused refuses the run
refusal_ends : {S : Type 0} (m : Meaning S) (config : Configuration) (es : List Event) (w : WorldState) (i : ℕ) (e : Event) (r : Refusal)
    → slice_get es i ≡ Some e → step m w e ≡ Err r → Running m config es w i → world.run m config es ≡ Err r
refusal_ends m config es w i e r at is running =
    let rest : drop i es ≡ e ∷ drop (suc i) es = (Splits-at es i e at).back in
    sym running.goes
    ∙ ap (λ (xs : List Event). run_from m running.lines w xs) rest
    ∙ ap (λ (x : Result Happened Refusal). go_on m running.lines x (λ ls u. run_from m ls u (drop (suc i) es))) is

pub run_refused : {S : Type 0} (m : Meaning S) (config : Configuration) (es : List Event) (w : WorldState) (i : ℕ) (e : Event)
    (error : StepError) (same : Type 0) → slice_get es i ≡ Some e → Refuses error (step m w e) same → Running m config es w i
    → IsRefusedBy error (world.run m config es)
run_refused m config es w i e (errors.NoSuchDatagram index sent) same at h running = refusal_ends m config es w i e _ at h.0 running
run_refused m config es w i e errors.NoSuchActor same at h running = refusal_ends m config es w i e _ at h.0 running
run_refused m config es w i e errors.Forged same at h running = refusal_ends m config es w i e _ at h.0 running
run_refused m config es w i e errors.NoMemory same at h running = tt

all_taken : (es : List Event) (i : ℕ) → length es ≤ i → EventsFit (take i es) → EventsFit es
all_taken [] i low fits = tt
all_taken (x ∷ es) zero low fits = absurd (omega (arith, low))
all_taken (x ∷ es) (suc i) low fits = (fits.0, all_taken es i (omega (arith, low)) fits.1)

-- at the end of the loop all events are passed
pub run_led : {S : Type 0} (m : Meaning S) (IsSound : S → Type 0) → KeepsTo m IsSound → (config : Configuration)
    → is_configuration config ≡ true → (es : List Event) (w : WorldState) (i : ℕ) → length es ≤ i → Running m config es w i
    → LeadTo m config es w
run_led m IsSound keeps config is_one es w i low r =
    let is : world.run m config es ≡ Ok (record { world = w; lines = r.lines }) =
    sym r.goes ∙ ap (λ (xs : List Event). run_from m r.lines w xs) (drop_all i es low) in
    record {
      lines = r.lines;
      is = is;
      safely = runs_are_safe m IsSound keeps config es (record { world = w; lines = r.lines }) is_one (all_taken es i low r.fit) is;
    }
