-- What is synchronised stays an archive, whatever an event delivers: what moves out of a log goes on where the archive ends.
use Rattle.std.proofs.Common.{◌≡◌, ◌≤◌, ◌<◌, ◌+◌, ◌-◌, ◌*◌, ℕ, Bool, true, false, Option, Some, None, refl, sym, ap, subst, ◌∙◌, arith}
use Rattle.std.proofs.Common.{List, [], ◌∷◌, ◌++◌, length, length-take, take, drop, inl, inr}
use Rattle.std.specs.Prelude.{⊤, ◌/◌, ◌||◌, cond, nat_lt, slice_get, slice_set}
use Rattle.std.specs.List.{AllByRecursion}
use Rattle.std.proofs.lemmas.Bool.{ltb-true, ltb-false}
use Rattle.std.proofs.lemmas.Option.{slice_get_within}
use Rattle.std.proofs.lemmas.List.{append-nil, length-take-le, take-append-drop, take-take, take_all, drop-drop, drop-take, drop_all}
use Rattle.nop_types.specs.Configuration.{Configuration, is_configuration}
use Rattle.nop_types.specs.Lists.{Has}
use Rattle.nop_types.specs.Logs.{Log, Whole, between, whole}
use Rattle.nop_types.specs.Meaning.{Meaning}
use Rattle.nop_types.specs.declared.output.Actor.{Actor}
use Rattle.nop_types.specs.declared.peer.Body.{Body}
use Rattle.nop_types.specs.declared.peer.Body.TheVariants as bodies
use Rattle.nop_types.specs.declared.peer.Change.{Change}
use Rattle.nop_types.specs.declared.peer.Peer.{Peer}
use Rattle.nop_types.specs.declared.request.Entry.{Entry}
use Rattle.lemmas.proofs.Members.{Has-none, Has-cases, Has-append_cases}
use Rattle.lemmas.proofs.Places.{slice_get-some, slice_get-set_cases, slice_get-set_after, take-append_past}
use Rattle.started_views.specs.Logs.{SameTo}
use Rattle.view_change.specs.Gathering.{Gathering}
use Rattle.replica_core.specs.declared.replica.TheConstants.{LAST_MESSAGE}
use Rattle.replica_state.specs.declared.sending.Sending.{Sending}
use Rattle.replica_state.specs.declared.sending.Sending.TheVariants.{ToClient, ToReplicas, Trims}
use Rattle.replica_state.specs.declared.state.ReplicaState.{ReplicaState}
use Rattle.replica_state.specs.Sends.{Effect, still}
use Rattle.replica_rows.specs.Messages.{Arrival, PeerMessage, Ticked}
use Rattle.replica_rows.specs.MessagePoints.{point_in_body, point_in_arrival}
use Rattle.replica_rows.specs.Within.{ResultsShort}
use Rattle.trimmed_rows.specs.Premises.{PointsWithin}
use Rattle.protocol.specs.Conf.{Conf}
use Rattle.protocol.specs.LocalState.{LocalState}
use Rattle.protocol_sync.specs.Synced.{SyncRises}
use Rattle.world.specs.Archive.{with_entries}
use Rattle.world.specs.Others.{Kind, State, seats, Who, AReplica, Another, who}
use Rattle.world.specs.Seats.{Seated, seated}
use Rattle.world.specs.WorldSteps.{numbered_seats}
use Rattle.whole_world.specs.Archives.{with_sends, row_sends, archive_of, IsArchive, ArchivesGoOn}
use Rattle.whole_world.specs.Passed.{Passed, passes, passed_from, first, passed}
use Rattle.whole_world.specs.Safe.{BringsFits, AllFit}
use Rattle.whole_world.specs.Shows.{ShowsActors}
use Rattle.whole_world.specs.Trimming.{log_in_body, AllWithin, PrefixesAgree}
use Rattle.whole_world.specs.Whole.{WholeReplica, WholeWorld, Letter, Brings, Timer, Junk, Equal, Message}
use Rattle.whole_world.specs.Whole.{input_of, arrival_of, letters_in, is_crash, after_row, posts, row_if, effect_of, live_replica, at_replica}
use Rattle.whole_world.specs.Whole.{step_replica, step_other, step_of, whole_step, opening_replica, opening}
use Rattle.whole_world.proofs.Coming.{messages_were_sent}
use Rattle.whole_world.proofs.Counts.{counts_from}
use Rattle.whole_world.proofs.Opening.{counted_get, counted_length}
use Rattle.whole_world.proofs.RowPoints.{IsLow, SendsLow, LowChanges, Rises, Leaves, row_leaves, rest_leaves}
use Rattle.whole_world.proofs.Safe.{whole_runs_are_safe}
use Rattle.whole_world.proofs.Trimming.{whole_can_trim}
use Rattle.whole_world.proofs.TrimmedRows.{given_is_no_message}

-- ---- a log up to a slot

abbrev point_of : Seated WholeReplica → ℕ
point_of p = p.state.state.sync.sync_point

abbrev entries_of : Seated WholeReplica → List Entry
entries_of p = p.state.state.log.entries

-- of entries from slot s + 1 on up to n, none are past the slot a
none_past : (s a n : ℕ) (l : List Entry) → n ≤ a → drop (a + 1 - (s + 1)) (take (n - s) (drop s l)) ≡ []
none_past s a n l high =
    let len = length-take (n - s) (drop s l) in
    drop_all (a + 1 - (s + 1)) (take (n - s) (drop s l)) (omega (arith, len, high))

-- or those up to n are
some_past : (s a n : ℕ) (l : List Entry) → s ≤ a → a ≤ n
    → drop (a + 1 - (s + 1)) (take (n - s) (drop s l)) ≡ take (n - a) (drop a l)
some_past s a n l low high =
    let skip : a + 1 - (s + 1) ≡ a - s = omega arith in
    let sum : n - s ≡ (a - s) + (n - a) = omega (arith, low, high) in
    let on : s + (a - s) ≡ a = omega (arith, low) in
    ap (λ (i : ℕ). drop i (take (n - s) (drop s l))) skip
    ∙ ap (λ (i : ℕ). drop (a - s) (take i (drop s l))) sum
    ∙ drop-take (a - s) (n - a) (drop s l)
    ∙ ap (λ (k : List Entry). take (n - a) k) (drop-drop (a - s) s l)
    ∙ ap (λ (i : ℕ). take (n - a) (drop i l)) on

-- a front, and what follows up to n
prefix_and_rest : (a n : ℕ) (l : List Entry) → a ≤ n → n ≤ length l → take a l ++ take (n - a) (drop a l) ≡ take n l
prefix_and_rest a n l low high =
    let len : length (take a l) + (n - a) ≡ n = omega (arith, length-take-le a l (omega (arith, low, high)), low) in
    sym (take-append_past (take a l) (drop a l) (n - a))
    ∙ ap (λ (k : List Entry). take (length (take a l) + (n - a)) k) (take-append-drop a l)
    ∙ ap (λ (i : ℕ). take i l) len

-- ---- what a row sends

module _ (a : ℕ) where
  nothing_moves : (archive : List Entry) (sends : List Sending) → AllByRecursion (SendsLow a) sends → with_sends archive sends ≡ archive
  nothing_moves archive [] low = refl
  nothing_moves archive (Trims n l ∷ sends) low = absurd low.0
  nothing_moves archive (_ ∷ sends) low = nothing_moves archive sends low.1

  moves_after : (archive : List Entry) (sends rest : List Sending) → AllByRecursion (SendsLow a) sends
      → with_sends archive (sends ++ rest) ≡ with_sends archive rest
  moves_after archive [] rest low = refl
  moves_after archive (Trims n l ∷ sends) rest low = absurd low.0
  moves_after archive (_ ∷ sends) rest low = moves_after archive sends rest low.1

  -- once
  moves_once : (archive : List Entry) (before rest : List Sending) (n : ℕ) (l : Log) → AllByRecursion (SendsLow a) before
      → AllByRecursion (SendsLow a) rest → with_sends archive (before ++ Trims n l ∷ rest) ≡ with_entries archive n l.entries
  moves_once archive before rest n l low last =
      moves_after archive before (Trims n l ∷ rest) low ∙ nothing_moves (with_entries archive n l.entries) rest last

  -- ---- letters

  -- a message tells no greater sync point
  abbrev SaysLow : Sending → Type 0
  SaysLow (ToReplicas dest p) = point_in_body p.body ≤ a
  SaysLow _ = ⊤

  says_low : (sends : List Sending) → AllByRecursion (SendsLow a) sends → AllByRecursion SaysLow sends
  says_low [] low = tt
  says_low (ToClient r ∷ sends) low = (tt, says_low sends low.1)
  says_low (ToReplicas dest p ∷ sends) low = (low.0, says_low sends low.1)
  says_low (Trims n l ∷ sends) low = absurd low.0

  says_both : (sends rest : List Sending) → AllByRecursion SaysLow sends → AllByRecursion SaysLow rest → AllByRecursion SaysLow (sends ++ rest)
  says_both [] rest low last = last
  says_both (x ∷ sends) rest low last = (low.0, says_both sends rest low.1 last)

  letters_low : (number : ℕ) (sends : List Sending) (x : Letter) → AllByRecursion SaysLow sends → Has (letters_in number sends) x
      → point_in_body x.peer.body ≤ a
  letters_low number [] x low i = absurd (Has-none x i)
  letters_low number (ToReplicas dest p ∷ sends) x low i =
      elim (Has-cases x (record { number = number + 1; dest = dest; peer = p }) (letters_in (number + 1) sends) i) [
        | inl e ↦ subst (λ (y : Letter). point_in_body y.peer.body ≤ a) (sym e) low.0
        | inr j ↦ letters_low (number + 1) sends x low.1 j
      ]
  letters_low number (_ ∷ sends) x low i = letters_low number sends x low.1 i

-- the sync point that is told is that of the log that is sent
point_is : (b : Body) (l : Log) → log_in_body b ≡ Some l → point_in_body b ≡ l.sync_point
point_is (bodies.ViewChange u x k) l e = ap (λ (y : Log). y.sync_point) (let same : k ≡ l = cc in same)
point_is (bodies.StartView x k) l e = ap (λ (y : Log). y.sync_point) (let same : k ≡ l = cc in same)
point_is (bodies.SyncPrepare k) l e = ap (λ (y : Log). y.sync_point) (let same : k ≡ l = cc in same)
point_is _ l e = absurd cc

point_at_most : (b : Body) (a : ℕ) → ((l : Log) → log_in_body b ≡ Some l → l.sync_point ≤ a) → point_in_body b ≤ a
point_at_most (bodies.ViewChange u x l) a h = h l refl
point_at_most (bodies.StartView x l) a h = h l refl
point_at_most (bodies.SyncPrepare l) a h = h l refl
point_at_most _ a h = omega arith

-- ---- from a world to a later one

-- no sync point falls, and what is synchronised stays
pub record SeatsKeep (w v : WholeWorld) : Type 0 where
  pub points : (j : ℕ) (p q : Seated WholeReplica) → slice_get w.replicas j ≡ Some p → slice_get v.replicas j ≡ Some q
      → point_of p ≤ point_of q
  pub prefixes : (j : ℕ) (p q : Seated WholeReplica) → slice_get w.replicas j ≡ Some p → slice_get v.replicas j ≡ Some q
      → take (point_of p) (entries_of p) ≡ take (point_of p) (entries_of q)

-- what holds of the later world
pub record Holds (w v : WholeWorld) : Type 0 where
  pub within : AllWithin v
  pub prefixes : PrefixesAgree v
  pub keeps : SeatsKeep w v

-- no sync point exceeds a
record IsBounded (a : ℕ) (v : WholeWorld) : Type 0 where
  replicas : (j : ℕ) (q : Seated WholeReplica) → slice_get v.replicas j ≡ Some q → point_of q ≤ a
  letters : (x : Letter) (l : Log) → Has v.letters x → log_in_body x.peer.body ≡ Some l → l.sync_point ≤ a
  gathered : (j : ℕ) (q : Seated WholeReplica) (g : Gathering Change) (c : Change) → slice_get v.replicas j ≡ Some q
      → q.state.state.changes ≡ Some g → Has g.changes c → c.log.sync_point ≤ a

-- what one replica has synchronised is an archive, where no sync point exceeds it
archive_from : (archive : List Entry) (v : WholeWorld) (r : ℕ) (q : Seated WholeReplica) → slice_get v.replicas r ≡ Some q
    → point_of q ≡ length archive → take (length archive) (entries_of q) ≡ archive → PrefixesAgree v → IsBounded (length archive) v
    → IsArchive archive v
archive_from archive v r q there far is prefixes bounded = record {
  within = bounded.replicas;
  prefixes = λ j p at.
      let low = bounded.replicas j p at in
      let same : SameTo (point_of p) (entries_of p) (entries_of q) =
      prefixes.replicas j r (point_of p) p q at there (omega arith) (omega (arith, low, far)) in
      ap (λ (l : List Entry). take (point_of p) l) (sym is)
      ∙ take-take (point_of p) (length archive) (entries_of q) low
      ∙ sym same.same;
  reaches = record { replica = r; seat = q; there = there; far = far };
  letters = bounded.letters;
  gathered = bounded.gathered;
}

-- where neither replicas nor letters change
same_archive : (archive : List Entry) (w v : WholeWorld) → v.replicas ≡ w.replicas → v.letters ≡ w.letters → IsArchive archive w
    → IsArchive archive v
same_archive archive w v seats letters h = record {
  within = λ i p e. h.within i p (there i p e);
  prefixes = λ i p e. h.prefixes i p (there i p e);
  reaches = let r = h.reaches in record {
    replica = r.replica;
    seat = r.seat;
    there = subst (λ (ps : List (Seated WholeReplica)). slice_get ps r.replica ≡ Some r.seat) (sym seats) r.there;
    far = r.far;
  };
  letters = λ x l i. h.letters x l (subst (λ (xs : List Letter). Has xs x) letters i);
  gathered = λ i p g c e. h.gathered i p g c (there i p e);
}
  where
    there : (i : ℕ) (p : Seated WholeReplica) → slice_get v.replicas i ≡ Some p → slice_get w.replicas i ≡ Some p
    there i p e = subst (λ (ps : List (Seated WholeReplica)). slice_get ps i ≡ Some p) seats e

-- ---- one replica's step

module _ (archive : List Entry) (w v : WholeWorld) (h : IsArchive archive w) (i : ℕ) (p new : Seated WholeReplica) (e : Effect)
    (there : slice_get w.replicas i ≡ Some p) (seats : v.replicas ≡ slice_set w.replicas i new) (state : new.state.state ≡ e.0)
    (letters : v.letters ≡ w.letters ++ letters_in p.state.messages e.1) (holds : Holds w v) where
  abbrev a : ℕ
  a = length archive

  abbrev old : ReplicaState
  old = p.state.state

  -- each replica is there afterwards
  seat_after : (j : ℕ) (q : Seated WholeReplica) → slice_get w.replicas j ≡ Some q
      → (u : Seated WholeReplica) × (slice_get v.replicas j ≡ Some u)
  seat_after j q at = elim (slice_get-set_after w.replicas i new j q at) [
    | inl s ↦ (new, ap (λ (ps : List (Seated WholeReplica)). slice_get ps j) seats ∙ s.1)
    | inr s ↦ (q, ap (λ (ps : List (Seated WholeReplica)). slice_get ps j) seats ∙ s)
  ]

  -- a replica that was synchronised so far has what it had
  pub record StillReaches : Type 0 where
    replica : ℕ
    seat : Seated WholeReplica
    stands : slice_get v.replicas replica ≡ Some seat
    far : a ≤ point_of seat
    has : take a (entries_of seat) ≡ archive

  reaches_still : StillReaches
  reaches_still =
      let r = h.reaches in
      let u = seat_after r.replica r.seat r.there in
      let far : point_of r.seat ≡ a = r.far in
      let rises : point_of r.seat ≤ point_of u.0 = holds.keeps.points r.replica r.seat u.0 r.there u.1 in
      let had : take a archive ≡ take a (entries_of r.seat) =
      subst (λ (n : ℕ). take n archive ≡ take n (entries_of r.seat)) far (h.prefixes r.replica r.seat r.there) in
      let stays : take a (entries_of r.seat) ≡ take a (entries_of u.0) =
      subst (λ (n : ℕ). take n (entries_of r.seat) ≡ take n (entries_of u.0)) far
      (holds.keeps.prefixes r.replica r.seat u.0 r.there u.1) in
      record {
        replica = r.replica;
        seat = u.0;
        stands = u.1;
        far = omega (arith, far, rises);
        has = sym stays ∙ sym had ∙ take_all a archive (omega arith);
      }

  -- no sync point exceeds what those of the row do not exceed
  bounds : (n : ℕ) → a ≤ n → e.0.sync.sync_point ≤ n → LowChanges a e.0.changes → AllByRecursion (SaysLow a) e.1 → IsBounded n v
  bounds n most point changes says = record {
    replicas = λ j q at. elim (slice_get-set_cases w.replicas i new j q (before_seat j q at)) [
      | inl (x, y) ↦ (let same : point_of q ≡ e.0.sync.sync_point = ap point_of y ∙ ap (λ (s : ReplicaState). s.sync.sync_point) state in
          omega (arith, same, point))
      | inr (x, y) ↦ (let low = h.within j q y in omega (arith, low, most))
    ];
    letters = λ x l has message. elim (Has-append_cases w.letters (letters_in p.state.messages e.1) x
        (subst (λ (xs : List Letter). Has xs x) letters has)) [
          | inl before ↦ (let low = h.letters x l before message in omega (arith, low, most))
          | inr fresh ↦ (
              let low = letters_low a p.state.messages e.1 x says fresh in
              let same = point_is x.peer.body l message in
              omega (arith, low, same, most))
        ];
    gathered = λ j q g c at gathers has. elim (slice_get-set_cases w.replicas i new j q (before_seat j q at)) [
      | inl (x, y) ↦ (
          let same : q.state.state.changes ≡ e.0.changes =
          ap (λ (t : Seated WholeReplica). t.state.state.changes) y ∙ ap (λ (s : ReplicaState). s.changes) state in
          let low = changes g c (sym same ∙ gathers) has in
          omega (arith, low, most))
      | inr (x, y) ↦ (let low = h.gathered j q g c y gathers has in omega (arith, low, most))
    ];
  }
    where
      before_seat : (j : ℕ) (q : Seated WholeReplica) → slice_get v.replicas j ≡ Some q → slice_get (slice_set w.replicas i new) j ≡ Some q
      before_seat j q at = sym (ap (λ (ps : List (Seated WholeReplica)). slice_get ps j) seats) ∙ at

  -- where nothing is added
  stays_archive : e.0.sync.sync_point ≤ a → LowChanges a e.0.changes → AllByRecursion (SaysLow a) e.1 → IsArchive archive v
  stays_archive point changes says =
      let r = reaches_still in
      let bounded = bounds a (omega arith) point changes says in
      let low = bounded.replicas r.replica r.seat r.stands in
      let far = r.far in
      archive_from archive v r.replica r.seat r.stands (omega (arith, low, far)) r.has holds.prefixes bounded

  -- the replica that made the step
  new_there : slice_get v.replicas i ≡ Some new
  new_there = elim (slice_get-set_after w.replicas i new i p there) [
    | inl s ↦ ap (λ (ps : List (Seated WholeReplica)). slice_get ps i) seats ∙ s.1
    | inr s ↦ (
        let u : slice_get v.replicas i ≡ Some p = ap (λ (ps : List (Seated WholeReplica)). slice_get ps i) seats ∙ s in
        elim (slice_get-set_cases w.replicas i new i p s) [
          | inl (x, y) ↦ u ∙ ap (λ (q : Seated WholeReplica). Some q) y
          | inr (x, y) ↦ absurd (x refl)
        ])
  ]

  module _ (low : old.log.sync_point ≤ a) (rise : Rises a old e) where
    abbrev n : ℕ
    n = e.0.sync.sync_point

    abbrev log : List Entry
    log = e.0.log.entries

    all_says : AllByRecursion (SaysLow a) e.1
    all_says =
        let moved : Sending = Trims (old.log.sync_point + 1) (whole 0 (between Whole old.log n)) in
        subst (AllByRecursion (SaysLow a)) (sym rise.sends)
        (says_both a rise.before (moved ∷ rise.rest) (says_low a rise.before rise.first) (tt, says_low a rise.rest rise.last))

    moved_out : with_sends archive e.1
        ≡ archive ++ drop (a + 1 - (old.log.sync_point + 1)) (take (n - old.log.sync_point) (drop old.log.sync_point old.log.entries))
    moved_out =
        ap (with_sends archive) rise.sends
        ∙ moves_once a archive rise.before rise.rest (old.log.sync_point + 1) (whole 0 (between Whole old.log n)) rise.first rise.last

    -- the archive reaches further already
    nothing_new : n ≤ a → IsArchive (with_sends archive e.1) v
    nothing_new high =
        let same : with_sends archive e.1 ≡ archive =
        moved_out ∙ ap (λ (l : List Entry). archive ++ l) (none_past old.log.sync_point a n old.log.entries high) ∙ append-nil archive in
        subst (λ (l : List Entry). IsArchive l v) (sym same) (stays_archive high rise.gathered all_says)

    -- the replica has what the archive has
    has_archive : a ≤ n → take a log ≡ archive
    has_archive less =
        let r = reaches_still in
        let point : point_of new ≡ n = ap (λ (s : ReplicaState). s.sync.sync_point) state in
        let same : SameTo a (entries_of new) (entries_of r.seat) =
        holds.prefixes.replicas i r.replica a new r.seat new_there r.stands (omega (arith, less, point)) r.far in
        ap (λ (s : ReplicaState). take a s.log.entries) (sym state) ∙ same.same ∙ r.has

    some_new : a < n → IsArchive (with_sends archive e.1) v
    some_new less =
        let high = rise.within in
        let within : n ≤ length log =
        subst (λ (s : ReplicaState). s.sync.sync_point ≤ length s.log.entries) state (holds.within.replicas i new new_there).sync_point in
        let short : a ≤ length old.log.entries = omega (arith, less, high) in
        let prefix : archive ≡ take a old.log.entries = sym (has_archive (omega (arith, less))) ∙ rise.kept a short in
        let len : length (take n log) ≡ n = length-take-le n log within in
        let is : with_sends archive e.1 ≡ take n log =
        moved_out
        ∙ ap (λ (l : List Entry). archive ++ l) (some_past old.log.sync_point a n old.log.entries low (omega (arith, less)))
        ∙ ap (λ (l : List Entry). l ++ take (n - a) (drop a old.log.entries)) prefix
        ∙ prefix_and_rest a n old.log.entries (omega (arith, less)) high
        ∙ sym (rise.kept n high) in
        let most : a ≤ length (take n log) = omega (arith, len, less) in
        let reach : n ≤ length (take n log) = omega (arith, len) in
        subst (λ (l : List Entry). IsArchive l v) (sym is)
        (archive_from (take n log) v i new new_there (ap (λ (s : ReplicaState). s.sync.sync_point) state ∙ sym len)
        (ap (λ (s : ReplicaState). take (length (take n log)) s.log.entries) state ∙ ap (λ (k : ℕ). take k log) len) holds.prefixes
        (bounds (length (take n log)) most reach rise.gathered all_says))

    rises_archive : IsArchive (with_sends archive e.1) v
    rises_archive = by (nat_lt a n) refl
      where
        by : (b : Bool) → nat_lt a n ≡ b → IsArchive (with_sends archive e.1) v
        by true is = some_new (ltb-true a n is)
        by false is = nothing_new (ltb-false a n is)

  pub step_archive : old.log.sync_point ≤ a → Leaves a old e → IsArchive (with_sends archive e.1) v
  step_archive low (inl stays) =
      subst (λ (l : List Entry). IsArchive l v) (sym (nothing_moves a archive e.1 stays.sends))
      (stays_archive stays.state.point stays.state.gathered (says_low a e.1 stays.sends))
  step_archive low (inr rise) = rises_archive low rise

-- ---- what comes to a replica

module _ (archive : List Entry) (w : WholeWorld) (h : IsArchive archive w) where
  no_message : (x : Arrival) → ((y : Peer) → x ≡ PeerMessage y → ⊥) → point_in_arrival x ≤ length archive
  no_message (PeerMessage y) none = absurd (none y refl)
  no_message _ none = omega arith

  letter_point : (q n : ℕ) (x : Arrival) → arrival_of w (Message q n) ≡ Some x → point_in_arrival x ≤ length archive
  letter_point q n x e =
      let t = messages_were_sent w q n x e in
      let y = t.2 in
      subst (λ (z : Arrival). point_in_arrival z ≤ length archive) (sym t.1)
      (subst (λ (z : Peer). point_in_body z.body ≤ length archive) y.peer
      (point_at_most y.letter.peer.body (length archive) (λ l message. h.letters y.letter l y.has message)))

  point_is_low : (b : Brings) (x : Arrival) → arrival_of w b ≡ Some x → point_in_arrival x ≤ length archive
  point_is_low (Timer tick) x e = let same : Ticked tick ≡ x = cc in subst (λ (z : Arrival). point_in_arrival z ≤ length archive) same (omega arith)
  point_is_low (Junk bytes) x e =
      no_message x (λ y message. given_is_no_message (input_of w.sent (Junk bytes)) y (e ∙ ap (λ (z : Arrival). Some z) message))
  point_is_low (Equal bytes) x e =
      no_message x (λ y message. given_is_no_message (input_of w.sent (Equal bytes)) y (e ∙ ap (λ (z : Arrival). Some z) message))
  point_is_low (Message q n) x e = letter_point q n x e
  point_is_low _ x e = absurd cc

  module _ {S : Type 0} (m : Meaning S) (i : ℕ) (p : Seated WholeReplica) (there : slice_get w.replicas i ≡ Some p)
      (within : PointsWithin p.state.state) where
    abbrev top : ℕ
    top = length archive

    log_low : p.state.state.log.sync_point ≤ top
    log_low = let points = within.points in let own = h.within i p there in omega (arith, points, own)

    state_low : IsLow top p.state.state
    state_low = record { point = h.within i p there; log_point = log_low; gathered = λ g c e has. h.gathered i p g c there e has }

    if_leaves : (b : Bool) (x : Arrival) → point_in_arrival x ≤ top → Leaves top p.state.state (row_if m b p.state.state x)
    if_leaves true x le = row_leaves top m p.state.state x le within state_low
    if_leaves false x le = rest_leaves top m p.state.state state_low

    effect_leaves : (o : Option Arrival) → ((x : Arrival) → o ≡ Some x → point_in_arrival x ≤ top) → Leaves top p.state.state (effect_of m p.state o)
    effect_leaves None low = rest_leaves top m p.state.state state_low
    effect_leaves (Some x) low = if_leaves (nat_lt p.state.messages LAST_MESSAGE) x (low x refl)

    -- a live replica makes a step
    live_archive : (b : Brings) → Holds w (posts w i p.state (effect_of m p.state (arrival_of w b)))
        → IsArchive (with_sends archive (effect_of m p.state (arrival_of w b)).1) (posts w i p.state (effect_of m p.state (arrival_of w b)))
    live_archive b holds =
        let e : Effect = effect_of m p.state (arrival_of w b) in
        step_archive archive w (posts w i p.state e) h i p (seated (after_row p.state e)) e there refl refl refl holds log_low
        (effect_leaves (arrival_of w b) (point_is_low b))

    -- it crashes
    crash_archive : Holds w (record w { replicas = slice_set w.replicas i (record p { crashed = true }) })
        → IsArchive archive (record w { replicas = slice_set w.replicas i (record p { crashed = true }) })
    crash_archive holds =
        step_archive archive w (record w { replicas = slice_set w.replicas i (record p { crashed = true }) }) h i p
        (record p { crashed = true }) (still p.state.state) there refl refl (sym (append-nil w.letters)) holds log_low
        (rest_leaves top m p.state.state state_low)

    abbrev sends : Brings → List Sending
    sends b = (effect_of m p.state (arrival_of w b)).1

    seat_archive : (b : Brings) (crashed crash : Bool) → is_crash b ≡ crash → Holds w (at_replica m w i p crashed b)
        → IsArchive (with_sends archive (cond (crashed || is_crash b) [] (sends b))) (at_replica m w i p crashed b)
    seat_archive b true crash is holds = h
    seat_archive b false true is holds =
        subst (λ (x : Bool). Holds w (live_replica m w i p x b)
        → IsArchive (with_sends archive (cond x [] (sends b))) (live_replica m w i p x b)) (sym is) crash_archive holds
    seat_archive b false false is holds =
        subst (λ (x : Bool). Holds w (live_replica m w i p x b)
        → IsArchive (with_sends archive (cond x [] (sends b))) (live_replica m w i p x b)) (sym is) (live_archive b) holds

  -- ---- one event

  module _ {S : Type 0} (m : Meaning S) (within : AllWithin w) where
    replica_archive : (i : ℕ) (b : Brings) (o : Option (Seated WholeReplica)) → slice_get w.replicas i ≡ o → Holds w (step_replica m w i o b)
        → IsArchive (with_sends archive (row_sends m w o b)) (step_replica m w i o b)
    replica_archive i b None there holds = h
    replica_archive i b (Some p) there holds =
        seat_archive m i p there (within.replicas i p there) b p.crashed (is_crash b) refl holds

    other_archive : (k : Kind) (i : ℕ) (b : Brings) (o : Option (Seated (State k))) → IsArchive archive (step_other k w i o b)
    other_archive k i b None = h
    other_archive k i b (Some q) = same_archive archive w (step_other k w i (Some q) b) refl refl h

    pub event_archive : (x : Who) (b : Brings) → Holds w (step_of m w x b)
        → IsArchive (archive_of m archive w x b) (step_of m w x b)
    event_archive (AReplica i) b holds = replica_archive i b (slice_get w.replicas i) refl holds
    event_archive (Another k i) b holds = other_archive k i b (slice_get (seats k w.others) i)
    event_archive _ b holds = h

-- ---- after any events

-- what the protocol shows goes on so
seats_keep : (f g : ℕ) (w v : WholeWorld) (c d : Conf) → ShowsActors f w c → ShowsActors g v d → SyncRises f c d
    → ((j : ℕ) (p : Seated WholeReplica) → slice_get w.replicas j ≡ Some p → j < 2 * f + 1) → SeatsKeep w v
seats_keep f g w v c d shown then rises few = record {
  points = λ j p q at there.
      let old = shown.replicas j p at in
      let new = then.replicas j q there in
      subst (λ (s : LocalState). point_of p ≤ s.sync.sync_point) new
      (subst (λ (s : LocalState). s.sync.sync_point ≤ (d.replicas j).sync.sync_point) old (rises.points j));
  prefixes = λ j p q at there.
      let old = shown.replicas j p at in
      let new = then.replicas j q there in
      subst (λ (s : LocalState). take (point_of p) (entries_of p) ≡ take (point_of p) s.log) new
      (subst (λ (s : LocalState). take s.sync.sync_point s.log ≡ take s.sync.sync_point (d.replicas j).log) old
      (rises.prefixes j (few j p at)));
}

module _ {S : Type 0} (m : Meaning S) where
  passed_push : (p : Passed) (es : List (Actor × Brings)) (x : Actor) (b : Brings)
      → passed_from m p (es ++ (x, b) ∷ []) ≡ passes (passed_from m p es) (whole_step m (passed_from m p es).world x b)
  passed_push p [] x b = refl
  passed_push p (e ∷ es) x b = passed_push (passes p (whole_step m p.world e.0 e.1)) es x b

  fit_push : (es : List (Actor × Brings)) (x : Actor) (b : Brings) → AllFit es → BringsFits b → AllFit (es ++ (x, b) ∷ [])
  fit_push [] x b fit one = (one, tt)
  fit_push (e ∷ es) x b fit one = (fit.0, fit_push es x b fit.1 one)

  module _ (short : ResultsShort m) (config : Configuration) (es : List (Actor × Brings)) (is : is_configuration config ≡ true)
      (fit : AllFit es) (x : Actor) (b : Brings) (one : BringsFits b) where
    abbrev more : List (Actor × Brings)
    more = es ++ (x, b) ∷ []

    abbrev now : WholeWorld
    now = (passed m config es).world

    later : (passed m config more).world ≡ whole_step m now x b
    later = ap (λ (p : Passed). p.world) (passed_push (first config) es x b)

    pub holds : Holds now (whole_step m now x b)
    holds =
        let fits = fit_push es x b fit one in
        let can = whole_can_trim m short config more is fits in
        let run = whole_runs_are_safe m short config more is fits in
        let was = run.before es ((x, b) ∷ []) refl in
        let shown = was.then.shows.actors in
        let keeps = seats_keep (config.replicas / 2) (config.replicas / 2) now (passed m config more).world was.then.conf run.at_last.conf
        shown run.at_last.shows.actors was.goes_on.synchronised
        (λ j p at. (let within = slice_get_within now.replicas j p at in let count = shown.replica_count in let two = shown.config in
        omega (arith, within, count, two))) in
        subst (Holds now) later (record { within = can.within; prefixes = can.prefixes; keeps = keeps })

pub archives_go_on : {S : Type 0} (m : Meaning S) → ArchivesGoOn m
archives_go_on m short config es is fit archive h x b one =
    event_archive archive (passed m config es).world h m (whole_can_trim m short config es is fit).within (who x) b
    (holds m short config es is fit x b one)

-- ---- the opening

module _ (config : Configuration) (is : is_configuration config ≡ true) where
  abbrev opening_seats : List (Seated WholeReplica)
  opening_seats = numbered_seats (opening_replica config) config.replicas

  opened : (i : ℕ) (p : Seated WholeReplica) → slice_get opening_seats i ≡ Some p → opening_replica config i ≡ p.state
  opened i p e = counted_get (opening_replica config) config.replicas i p e

  opened_point : (i : ℕ) (p : Seated WholeReplica) → slice_get opening_seats i ≡ Some p → point_of p ≡ 0
  opened_point i p e = ap (λ (r : WholeReplica). r.state.sync.sync_point) (sym (opened i p e))

  pub archive_opens : IsArchive [] (opening config)
  archive_opens =
      let count = (counts_from config is).replicas in
      let len = counted_length (opening_replica config) config.replicas in
      let one = slice_get-some opening_seats 0 (omega (arith, len, count)) in
      record {
        within = λ i p e. (let none = opened_point i p e in omega (arith, none));
        prefixes = λ i p e. subst (λ (n : ℕ). take n [] ≡ take n (entries_of p)) (sym (opened_point i p e)) refl;
        reaches = record { replica = 0; seat = one.0; there = one.1; far = opened_point 0 one.0 one.1 };
        letters = λ x l i. absurd (Has-none x i);
        gathered = λ i p g c e gathers. absurd (
            let none : None ≡ p.state.state.changes = ap (λ (r : WholeReplica). r.state.changes) (opened i p e) in
            let some : None ≡ Some g = none ∙ gathers in cc);
      }
