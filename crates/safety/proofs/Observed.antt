-- What comes to an observer of a run was said in the last configuration; so what it reads is right there.
use Rattle.std.proofs.Common.{◌≡◌, ℕ, Bool, true, false, List, [], ◌∷◌, take, Option, Some, None, refl, sym, ap, subst, ◌∙◌, inl, inr}
use Rattle.std.specs.Prelude.{◌/◌, ◌==◌, ◌⊎◌, Result, Ok, nat_lt}
use Rattle.nop_types.specs.Checkpoints.{KeepsTo}
use Rattle.nop_types.specs.Configuration.{Configuration}
use Rattle.nop_types.specs.Execution.{Executed, execute, opening}
use Rattle.nop_types.specs.Given.{Given, Packet}
use Rattle.nop_types.specs.Histories.{history_of}
use Rattle.nop_types.specs.Lists.{Has}
use Rattle.nop_types.specs.Logs.{Whole, Trimmed}
use Rattle.nop_types.specs.Meaning.{Meaning}
use Rattle.nop_types.specs.Ranges.{BodyIsIn}
use Rattle.nop_types.specs.Reads.{ReadIsRight, state_after}
use Rattle.nop_types.specs.Services.{get_of}
use Rattle.nop_types.specs.declared.datagram.Answer.{Answer}
use Rattle.nop_types.specs.declared.datagram.Datagram.{Datagram}
use Rattle.nop_types.specs.declared.datagram.Datagram.TheVariants as datagrams
use Rattle.nop_types.specs.declared.datagram.Fragment.{Fragment}
use Rattle.nop_types.specs.declared.datagram.Read.{Read}
use Rattle.nop_types.specs.declared.output.Actor.{Actor}
use Rattle.nop_types.specs.declared.output.Actor.TheVariants.{Client}
use Rattle.nop_types.specs.declared.output.Dest.TheVariants.{One}
use Rattle.nop_types.specs.declared.output.Out.{Out}
use Rattle.nop_types.specs.declared.output.Out.TheVariants.{Send}
use Rattle.nop_types.specs.declared.peer.Body.{Body}
use Rattle.nop_types.specs.declared.peer.Body.TheVariants as bodies
use Rattle.nop_types.specs.declared.peer.Peer.{Peer}
use Rattle.nop_types.specs.declared.request.Entry.{Entry}
use Rattle.nop_types.specs.declared.request.Request.{Request}
use Rattle.lemmas.proofs.Members.{Has-first, Has-rest}
use Rattle.execution_laws.specs.Execution.{execute_all}
use Rattle.oum_codec.specs.declared.bad.Bad.{Bad}
use Rattle.oum_codec.specs.Reading.{reading}
use Rattle.oum_codec.specs.Spelling.{spelling}
use Rattle.peer_codec.specs.Reading as peers
use Rattle.fragments.specs.Joining.{Waiting, taken}
use Rattle.fragments.specs.Runs.{AllCame}
use Rattle.fragments.proofs.Came.{keeps_what_came, opening_came}
use Rattle.schedule_text.specs.declared.event.Event.{Event}
use Rattle.trimmed_rows.specs.Trimmed.{trimmed_peer}
use Rattle.protocol.specs.Conf.{Conf}
use Rattle.protocol.specs.Invariant.{Inv}
use Rattle.protocol_sync.specs.Laws.{IsMainLog}
use Rattle.protocol_sync.specs.Synced.{Sync}
use Rattle.world.specs.WorldSteps.{WorldState, Happened, main_log}
use Rattle.network_laws.specs.Network.{MayCome, fragments_among}
use Rattle.network_laws.proofs.Networks.{among_has}
use Rattle.whole_world.specs.Coming.{IsLetter}
use Rattle.whole_world.specs.Passed as whole_passed
use Rattle.whole_world.specs.Passed.{Passed}
use Rattle.whole_world.specs.Safe.{IsSafe}
use Rattle.whole_world.specs.Shows.{MessagesSay, peers_of}
use Rattle.whole_world.specs.Whole as whole
use Rattle.whole_world.specs.Whole.{WholeWorld, Brings, Letter, whole_run}
use Rattle.whole_world.proofs.Coming.{letter_found}
use Rattle.whole_world.proofs.MainLogs.{is_main_log}
use Rattle.whole_world.proofs.Mapped.{Has-map}
use Rattle.safety.specs.Following.{all_brought, bytes_of, whole_after, FollowsWhole, JoinsTrimmed}
use Rattle.observer.specs.Hearing.{Hearing, of_sender_if, read, joined, fragment_if, fragment}
use Rattle.observer.specs.ObserverSteps.{Observer, answered, on_datagram, next, after, opening as unread}
use Rattle.observer.specs.Observing.{Observing, position, told, answer}
use Rattle.observer.specs.Observing as observing
use Rattle.observer_laws.specs.Trimmed.{TellsPlain, trimmed_observing}
use Rattle.observer_laws.specs.Watching.{Watched, ReadsMain}
use Rattle.observer_laws.proofs.Trims.{told_trims, answer_trims}
use Rattle.observer_laws.proofs.Watched.{opens_watched, rows_are_watched, watched_read_main, candidates_begin}
use Rattle.read_laws.specs.Received.{Received}
use Rattle.safety.specs.Observers.{ReadsHistory, AnswersHistory, IsRead}
use Rattle.safety.specs.Reads.{ObserverIsRight}

-- what requests leave, without the table
states_same : {S : Type 0} (m : Meaning S) (x : Executed S) (rs : List Request) → (execute_all m x rs).host ≡ state_after m x.host rs
states_same m x [] = refl
states_same m x (r ∷ rs) = states_same m (execute m x r) rs

-- a whole message tells a log that is kept whole
plain_body : (b : Body) → BodyIsIn Whole b → TellsPlain b
plain_body (bodies.SyncPrepare l) h = record { within = h.point; whole = h.checkpoint }
plain_body body h = tt

module _ {S : Type 0} (m : Meaning S) (IsSound : S → Type 0) (keeps : KeepsTo m IsSound) (f : ℕ) (c : Conf) (inv : Inv m f c) (sync : Sync f c)
    (w : WholeWorld) (tells : MessagesSay (peers_of w.letters) c.said) (t : WorldState)
    (joins : (waiting : List Waiting) (f : Fragment) (bytes : List ℕ) → AllCame (fragments_among (bytes_of t.sent)) waiting
    → Has (fragments_among (bytes_of t.sent)) f → (taken waiting f).1 ≡ Some bytes → JoinsTrimmed m w f bytes)
    (n : ℕ) where
  abbrev net : List Fragment
  net = fragments_among (bytes_of t.sent)

  -- it is a watched one, trimmed; and what it keeps of messages came in fragments
  record Stands (s : Hearing) : Type 0 where
    whole : Observing
    is : s.state ≡ trimmed_observing m whole
    watched : Watched f c whole
    came : AllCame net s.reassembly

  -- a message that was sent
  told_stands : (s : Hearing) (p : Peer) → Stands s → Has (peers_of w.letters) p → (b : Bool)
      → Stands (of_sender_if m n b s (trimmed_peer m p))
  told_stands s p h has false = h
  told_stands s p h has true =
      let plain : TellsPlain p.body = plain_body p.body (tells.fits p has).body in
      record {
        whole = told m Whole n h.whole p;
        is = ap (λ (x : Observing). told m Trimmed n x (trimmed_peer m p)) h.is
            ∙ told_trims m IsSound keeps n h.whole p h.watched.fits plain;
        watched = rows_are_watched m f c inv sync n h.whole p h.watched (tells.all p has) plain;
        came = h.came;
      }

  joined_stands : (s : Hearing) (q : Fragment) (bytes : List ℕ) → Stands s → JoinsTrimmed m w q bytes
      → Stands (read m n s q.replica (peers.reading bytes))
  joined_stands s q bytes h j =
      let x : IsLetter w.letters q.replica q.message j.peer = letter_found w.letters q.replica q.message j.peer j.letter in
      let has : Has (peers_of w.letters) j.peer =
      subst (Has (peers_of w.letters)) x.peer (Has-map (λ (y : Letter). y.peer) w.letters x.letter x.has) in
      subst (λ (r : Result Peer _). Stands (read m n s q.replica r)) (sym j.read)
      (told_stands s j.peer h has ((trimmed_peer m j.peer).sender == q.replica))

  fragment_stands : (s : Hearing) (bytes : List ℕ) (q : Fragment) → Stands s → Has (bytes_of t.sent) bytes
      → reading bytes ≡ Ok (datagrams.Fragment q) → Stands (fragment_if m n true s q)
  fragment_stands s bytes q h has is = by (taken s.reassembly q).1 refl
    where
      then : Hearing
      then = record s { reassembly = (taken s.reassembly q).0 }

      kept : Stands (record s { reassembly = (taken s.reassembly q).0 })
      kept = record {
        whole = h.whole;
        is = h.is;
        watched = h.watched;
        came = (keeps_what_came net s.reassembly q (among_has (bytes_of t.sent) bytes q has is) h.came).kept;
      }

      by : (o : Option (List ℕ)) → (taken s.reassembly q).1 ≡ o
          → Stands (joined m n (record s { reassembly = (taken s.reassembly q).0 }) q.replica o)
      by None e = kept
      by (Some whole) e =
          joined_stands (record s { reassembly = (taken s.reassembly q).0 }) q whole kept
          (joins s.reassembly q whole h.came (among_has (bytes_of t.sent) bytes q has is) e)

  if_stands : (s : Hearing) (bytes : List ℕ) (q : Fragment) → Stands s → Has (bytes_of t.sent) bytes
      → reading bytes ≡ Ok (datagrams.Fragment q) → (b : Bool) → Stands (fragment_if m n b s q)
  if_stands s bytes q h has is true = fragment_stands s bytes q h has is
  if_stands s bytes q h has is false = h

  -- and it keeps its numbers
  record StandsAs (i : ℕ) (s : Observer) : Type 0 where
    replicas : s.config.replicas ≡ n
    number : s.number ≡ i
    heard : Stands s.heard

  datagram_stands : (i : ℕ) (s : Observer) (bytes : List ℕ) → StandsAs i s → Has (bytes_of t.sent) bytes → (r : Result Datagram Bad)
      → reading bytes ≡ r → StandsAs i (on_datagram m s r).0
  datagram_stands i s bytes h has (Ok (datagrams.Fragment q)) is =
      record {
        replicas = h.replicas;
        number = h.number;
        heard = subst (λ (k : ℕ). Stands (fragment m k s.heard q)) (sym h.replicas)
            (if_stands s.heard bytes q h.heard has is (nat_lt q.replica n));
      }
  datagram_stands i s bytes h has r is = h

  packet_stands : (i : ℕ) (s : Observer) (bytes : List ℕ) → StandsAs i s → MayCome (bytes_of t.sent) (Packet bytes) ⊎ IsRead (Packet bytes)
      → StandsAs i (on_datagram m s (reading bytes)).0
  packet_stands i s bytes h (inl (inl has)) = datagram_stands i s bytes h has (reading bytes) refl
  packet_stands i s bytes h (inl (inr none)) = subst (λ (r : Result Datagram Bad). StandsAs i (on_datagram m s r).0) (sym none.refused) h
  packet_stands i s bytes h (inr r) = subst (λ (x : Result Datagram Bad). StandsAs i (on_datagram m s x).0) (sym r.1) h

  one_stands : (i : ℕ) (s : Observer) (x : Given) → StandsAs i s → MayCome (bytes_of t.sent) x ⊎ IsRead x → StandsAs i (next m s x).0
  unfolding next
  one_stands i s (Packet bytes) h may = packet_stands i s bytes h may
  one_stands i s x h may = h

  all_stand : (i : ℕ) (came : List Given) (s : Observer) → StandsAs i s
      → ((x : Given) → Has came x → MayCome (bytes_of t.sent) x ⊎ IsRead x) → StandsAs i (after m s came)
  all_stand i [] s h may = h
  all_stand i (x ∷ rest) s h may =
      all_stand i rest (next m s x).0 (one_stands i s x h (may x (Has-first x x rest refl))) (λ y has. may y (Has-rest y x rest has))

  opening_stands : (config : Configuration) (i : ℕ) → config.replicas ≡ n → StandsAs i (unread config i)
  opening_stands config i is = record {
    replicas = is;
    number = refl;
    heard = record {
      whole = observing.opening;
      is = refl;
      watched = opens_watched f c;
      came = opening_came net config.replicas;
    };
  }

  -- so a read is right
  reads_right : (main : List Entry) → ((s : Observing) → Watched f c s → ReadsMain m main s) → main_log t ≡ main
      → (s : Hearing) → Stands s → ReadsHistory m t s.state
  reads_right main right same s x =
      let r : ReadsMain m (main_log t) x.whole = subst (λ (log : List Entry). ReadsMain m log x.whole) (sym same) (right x.whole x.watched) in
      subst (ReadsHistory m t) (sym x.is)
      (record {
        within = r.within;
        members = r.members;
        answers = λ op. answer_trims m IsSound keeps x.whole op ∙ r.answers op;
      })

  -- and the observer is right
  pub observer_right : (main : List Entry) → ((s : Observing) → Watched f c s → ReadsMain m main s) → main_log t ≡ main
      → (config : Configuration) (i : ℕ) → config.replicas ≡ n → (came : List Given)
      → ((x : Given) → Has came x → MayCome (bytes_of t.sent) x ⊎ IsRead x)
      → ObserverIsRight m f c t (after m (unread config i) came).heard.state
  observer_right main right same config i is came may =
      let s : Observer = after m (unread config i) came in
      let x : StandsAs i s = all_stand i came (unread config i) (opening_stands config i is) may in
      record {
        whole = x.heard.whole;
        is = x.heard.is;
        known = x.heard.watched.known;
        candidate = candidates_begin m f c inv x.heard.whole x.heard.watched;
        reads = reads_right main right same s.heard x.heard;
      }

  answer_is : (i : ℕ) (s : Observer) (bytes : List ℕ) (q : Read) → reading bytes ≡ Ok (datagrams.Read q)
      → next m s (Packet bytes) ≡ (s, answered m s q ∷ [])
  unfolding next
  answer_is i s bytes q is = ap (on_datagram m s) is

  pub answers_right : (main : List Entry) → ((s : Observing) → Watched f c s → ReadsMain m main s) → main_log t ≡ main
      → (config : Configuration) (i : ℕ) → config.replicas ≡ n → (came : List Given)
      → ((x : Given) → Has came x → MayCome (bytes_of t.sent) x ⊎ IsRead x)
      → AnswersHistory m t i (after m (unread config i) came)
  answers_right main right same config i is came may =
      let s : Observer = after m (unread config i) came in
      let x : StandsAs i s = all_stand i came (unread config i) (opening_stands config i is) may in
      let reads : ReadsHistory m t s.heard.state = reads_right main right same s.heard x.heard in
      record {
        reads = reads;
        answers = λ bytes q e. answer_is i s bytes q e
            ∙ ap (λ (k : ℕ). (
              s,
              to_client q (record {
                observer = k;
                position = position s.heard.state;
                client = q.client;
                id = q.id;
                result = answer m Trimmed s.heard.state (get_of q.key);
              }) ∷ [],
            )) x.number
            ∙ ap (λ (result : List ℕ). (
              s,
              to_client q (record {
                observer = i;
                position = position s.heard.state;
                client = q.client;
                id = q.id;
                result = result;
              }) ∷ [],
            )) (reads.answers (get_of q.key));
      }
    where
      to_client : Read → Answer → Out
      to_client q a = Send (One (Client q.client)) (spelling (datagrams.Answer a))

-- ---- what a run leads to

module _ {S : Type 0} (m : Meaning S) (IsSound : S → Type 0) (keeps : KeepsTo m IsSound) (config : Configuration) (es : List Event) (h : Happened)
    (safe : IsSafe m config (all_brought m config es)) (follows : FollowsWhole m h (whole_after m config es)) where
  abbrev w : WholeWorld
  w = (whole_passed.passed m config (all_brought m config es)).world

  same_world : (q : Passed) (xs : List (Actor × Brings)) → (whole_passed.passed_from m q xs).world ≡ whole_run m q.world xs
  same_world q [] = refl
  same_world q (b ∷ xs) = same_world (whole_passed.passes q (whole.whole_step m q.world b.0 b.1)) xs

  beside : FollowsWhole m h w
  beside = subst (FollowsWhole m h) (sym (same_world (whole_passed.first config) (all_brought m config es))) follows

  is_main : IsMainLog (config.replicas / 2) safe.conf (whole.main_view w) (whole.main_log w)
  is_main = is_main_log m (config.replicas / 2) w safe.conf safe.inv safe.shows.actors

  reads_main : (s : Observing) → Watched (config.replicas / 2) safe.conf s → ReadsMain m (whole.main_log w) s
  reads_main s x =
      watched_read_main m (config.replicas / 2) safe.conf safe.inv safe.sync (whole.main_view w) (whole.main_log w) is_main s x

  -- whatever came to an observer
  pub came_reads : (i : ℕ) (came : List Given) → ((x : Given) → Has came x → MayCome (bytes_of h.world.sent) x ⊎ IsRead x)
      → AnswersHistory m h.world i (after m (unread config i) came)
  came_reads i came may =
      answers_right m IsSound keeps (config.replicas / 2) safe.conf safe.inv safe.sync w safe.shows.tells h.world beside.joins config.replicas
      (whole.main_log w) reads_main beside.main config i refl came may

  pub received_is_right : (i : ℕ) (s : Observer) → Received m config (bytes_of h.world.sent) i s
      → ObserverIsRight m (config.replicas / 2) safe.conf h.world s.heard.state
  received_is_right i s received =
      subst (λ (o : Observer). ObserverIsRight m (config.replicas / 2) safe.conf h.world o.heard.state) received.is
      (observer_right m IsSound keeps (config.replicas / 2) safe.conf safe.inv safe.sync w safe.shows.tells h.world beside.joins
      config.replicas (whole.main_log w) reads_main beside.main config i refl received.inputs
      (λ x has. inl (received.came x has)))

  -- what it reads for a key is that of the first slots
  pub received_reads : (i : ℕ) (s : Observer) → Received m config (bytes_of h.world.sent) i s → (key : List ℕ)
      → ReadIsRight m (main_log h.world) (position s.heard.state) key (answer m Trimmed s.heard.state (get_of key))
  received_reads i s received key =
      let r : ReadsHistory m h.world s.heard.state = (received_is_right i s received).reads in
      record {
        within = r.within;
        members = r.members;
        gives = r.answers (get_of key)
            ∙ ap (λ (x : S). m.answer x (get_of key))
            (states_same m (opening m) (history_of (take (position s.heard.state) (main_log h.world))));
      }
