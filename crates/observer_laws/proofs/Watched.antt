-- Whatever was said comes to an observer, what it executed is synchronised.
use Rattle.std.proofs.Common.{◌≡◌, ℕ, ◌-◌, ◌≤◌, ◌<◌, Bool, true, false, cond, List, ◌++◌, length, take, drop, Option, Some, None}
use Rattle.std.proofs.Common.{refl, sym, ap, subst, ◌∙◌, arith, inl, inr}
use Rattle.std.specs.Prelude.{nat_lt, nat_le, ◌==◌, ◌&&◌, IfSome}
use Rattle.std.proofs.lemmas.Bool.{and_parts}
use Rattle.std.proofs.lemmas.Bool.Decides.{nat_tests}
use Rattle.std.proofs.lemmas.List.{length-take-le, take_all}
use Rattle.nop_types.specs.declared.peer.Body.{Body}
use Rattle.nop_types.specs.declared.peer.Body.TheVariants as bodies
use Rattle.nop_types.specs.declared.peer.Peer.{Peer}
use Rattle.nop_types.specs.declared.request.Entry.{Entry}
use Rattle.nop_types.specs.declared.view.View.{View}
use Rattle.nop_types.specs.CheckpointedLogs.{loads}
use Rattle.nop_types.specs.Execution.{Executed, exec}
use Rattle.nop_types.specs.Lists.{Has, IsPrefixOf}
use Rattle.nop_types.specs.Logs.{Log, Whole, length_of, first}
use Rattle.nop_types.specs.Meaning.{Meaning}
use Rattle.nop_types.specs.Views.{is_view, leader_of}
use Rattle.lemmas.proofs.Prefixes.{IsPrefixOf-refl, IsPrefixOf-take, IsPrefixOf-trans}
use Rattle.lemmas.proofs.Views.{is_view-true}
use Rattle.execution_laws.proofs.Members.{history_of_prefix}
use Rattle.execution_laws.proofs.Steps.{exec_is_of_history}
use Rattle.started_views.specs.Logs.{SameTo}
use Rattle.started_views.proofs.Keeping.{synchronised_agree, main_log_exists}
use Rattle.started_views.proofs.Logs.{same_from_prefix, same_less, same_sym, same_trans}
use Rattle.started_views.specs.Past.{LeaderHad}
use Rattle.trimming.proofs.Lists.{take-to}
use Rattle.protocol.specs.Conf.{Conf, DidSay, last_normals}
use Rattle.protocol.specs.Invariant.{Inv}
use Rattle.protocol.specs.Said.{SyncPrepare, SyncCommit, says}
use Rattle.protocol.specs.Truth.{Prepared}
use Rattle.protocol.proofs.Grounding.{grounds_of}
use Rattle.protocol_sync.specs.Laws.{IsMainLog}
use Rattle.protocol_sync.specs.Synced.{Anchored, Sync}
use Rattle.protocol_sync.proofs.Agreeing.{fixed_from}
use Rattle.protocol_sync.proofs.Facts.{same_none}
use Rattle.refinement.specs.Projection.{said_of}
use Rattle.observer.specs.Observing.{Candidate, Observing, position, is_better, prepare_if, prepare, may_follow}
use Rattle.observer.specs.Observing.{commit_if, commit_by, on_body, told_if}
use Rattle.observer_laws.specs.Trimmed.{IsPlain, CandidateFits, TellsPlain}
use Rattle.observer_laws.specs.Watching.{WasPrepared, Watched, OpensWatched, RowsAreWatched, WatchedReadMain, CandidatesBegin}

pub opens_watched : OpensWatched
opens_watched f c = record { fits = record { ends = refl; candidate = tt }; known = inl refl; candidate = tt }

module _ {S : Type 0} (m : Meaning S) (f : ℕ) (c : Conf) (inv : Inv m f c) (sync : Sync f c) where
  -- what was told begins the log of the view's leader
  prepared : (q : ℕ) (w : View) (l : Log) → DidSay c.said q w (SyncPrepare l.sync_point l.entries) → Prepared f c q w l.entries
  prepared q w l h = inv.said (says q w (SyncPrepare l.sync_point l.entries)) h

  -- slots that begin a leader's log, as many of them anchored there, begin the main log
  main_begins : (v w : View) (main lead l : List Entry) (s : ℕ) → IsMainLog f c v main → LeaderHad f c.past w lead
      → SameTo s l lead → Anchored f c w s → SameTo s l main
  main_begins v w main lead l s is leads same anchored =
      let fixed = fixed_from f c sync w s anchored in
      let begins : IsPrefixOf (take s l) main =
      synchronised_agree f c.stamps (last_normals c) c.past (grounds_of m f c inv) v w main lead l s is leads same fixed in
      let long : s ≤ length (take s l) = omega (arith, length-take-le s l same.left) in
      same_from_prefix s (take s l) l main long (IsPrefixOf-take s l) begins

  -- so does what is executed
  pub known_is_main : (v : View) (main : List Entry) (s : Observing) → IsMainLog f c v main → Watched f c s
      → SameTo (position s) s.known.entries main
  known_is_main v main s is h = elim h.known [
    | inl none ↦ subst (λ (n : ℕ). SameTo n s.known.entries main) (sym none) (same_none s.known.entries main)
    | inr x ↦
        let long : position s ≤ length s.known.entries = omega (arith, h.fits.ends) in
        main_begins v x.view main x.lead s.known.entries (position s) is x.leads
        (same_from_prefix (position s) s.known.entries s.known.entries x.lead long (IsPrefixOf-refl s.known.entries) x.begins) x.anchored
  ]

  -- ---- SyncPrepare

  known_prepared : (q : ℕ) (w : View) (l : Log) (s : Observing) → DidSay c.said q w (SyncPrepare l.sync_point l.entries) → IsPlain l
      → Watched f c s → (b : Bool) → nat_lt s.known.sync_point l.sync_point ≡ b
      → Watched f c (record { known = cond b (first Whole l l.sync_point) s.known; candidate = Some (record { view = w; log = l }) })
  known_prepared q w l s said plain h true is =
      let p = prepared q w l said in
      let t = sync.points.prepares q w l.sync_point l.entries said in
      record {
        fits = record {
          ends = length-take-le l.sync_point l.entries plain.within;
          candidate = record { plain = plain; low = omega arith };
        };
        known = inr (record {
          view = w;
          lead = p.lead;
          leads = p.leads;
          begins = IsPrefixOf-trans (take l.sync_point l.entries) l.entries p.lead (IsPrefixOf-take l.sync_point l.entries) p.begins;
          anchored = t.anchored;
        });
        candidate = record { sender = q; said = said };
      }
  known_prepared q w l s said plain h false is =
      let low : l.sync_point ≤ s.known.sync_point = grind (arith, nat_tests, is) in
      record {
        fits = record { ends = h.fits.ends; candidate = record { plain = plain; low = low } };
        known = h.known;
        candidate = record { sender = q; said = said };
      }

  prepare_watched : (q : ℕ) (w : View) (l : Log) (s : Observing) → DidSay c.said q w (SyncPrepare l.sync_point l.entries) → IsPlain l
      → Watched f c s → (b : Bool) → Watched f c (prepare_if Whole b s w l)
  prepare_watched q w l s said plain h true = known_prepared q w l s said plain h (nat_lt s.known.sync_point l.sync_point) refl
  prepare_watched q w l s said plain h false = h

  -- ---- SyncCommit

  -- what is executed is what a longer synchronised log has there
  same_fronts : (s : Observing) (w : View) (l lead : List Entry) (n : ℕ) → Watched f c s → position s ≤ n → n ≤ length l
      → LeaderHad f c.past w lead → IsPrefixOf l lead → Anchored f c w n → s.known.entries ≡ take (position s) l
  same_fronts s w l lead n h low high leads begins anchored =
      let main = main_log_exists f c.stamps (last_normals c) c.past (grounds_of m f c inv) in
      let a : SameTo (position s) s.known.entries main.1 = known_is_main main.0 main.1 s main.2 h in
      let b : SameTo n l main.1 = main_begins main.0 w main.1 lead l n main.2 leads
      (same_from_prefix n l l lead high (IsPrefixOf-refl l) begins) anchored in
      let d : SameTo (position s) s.known.entries l =
      same_trans (position s) s.known.entries main.1 l a (same_sym (position s) l main.1 (same_less n (position s) l main.1 low b)) in
      sym (take_all (position s) s.known.entries (omega (arith, h.fits.ends))) ∙ d.same

  commit_watched : (q : ℕ) (w : View) (n : ℕ) (s : Observing) (x : Candidate) → DidSay c.said q w (SyncCommit n) → Watched f c s
      → WasPrepared c x → CandidateFits (position s) x → s.candidate ≡ Some x → (b : Bool) → may_follow Whole s x w n ≡ b
      → Watched f c (commit_if m Whole b s x.log n)
  commit_watched q w n s x said h prepare fits at true is =
      let parts = and_parts (is_view x.view w) (nat_le n (length_of Whole x.log) && nat_lt (position s) n) is in
      let tests = and_parts (nat_le n (length_of Whole x.log)) (nat_lt (position s) n) parts.1 in
      let view : x.view ≡ w = is_view-true x.view w parts.0 in
      let high : n ≤ length x.log.entries = (let t = tests.0 in grind (arith, nat_tests, t)) in
      let up : position s < n = (let t = tests.1 in grind (arith, nat_tests, t)) in
      let l : List Entry = x.log.entries in
      let p : Prepared f c prepare.sender x.view l = prepared prepare.sender x.view x.log prepare.said in
      let anchored : Anchored f c x.view n = subst (λ (u : View). Anchored f c u n) (sym view) (sync.commits q w n said).anchored in
      let front : s.known.entries ≡ take (position s) l = same_fronts s x.view l p.lead n h (omega (arith, up)) high p.leads p.begins anchored in
      let all : s.known.entries ++ take (n - position s) (drop (position s) l) ≡ take n l =
      ap (λ (xs : List Entry). xs ++ take (n - position s) (drop (position s) l)) front ∙ take-to n (position s) l (omega (arith, up)) in
      record {
        fits = record {
          ends = ap (λ (xs : List Entry). length xs) all ∙ length-take-le n l high;
          candidate = subst (λ (o : Option Candidate). IfSome o (λ y. CandidateFits n y)) (sym at)
              (record { plain = fits.plain; low = (let a = fits.low in omega (arith, a, up)) });
        };
        known = inr (record {
          view = x.view;
          lead = p.lead;
          leads = p.leads;
          begins = subst (λ (xs : List Entry). IsPrefixOf xs p.lead) (sym all)
              (IsPrefixOf-trans (take n l) l p.lead (IsPrefixOf-take n l) p.begins);
          anchored = anchored;
        });
        candidate = h.candidate;
      }
  commit_watched q w n s x said h prepare fits at false is = h

  commit_by_watched : (q : ℕ) (w : View) (n : ℕ) (s : Observing) → DidSay c.said q w (SyncCommit n) → Watched f c s
      → (o : Option Candidate) → s.candidate ≡ o → Watched f c (commit_by m Whole o s w n)
  commit_by_watched q w n s said h None at = h
  commit_by_watched q w n s said h (Some x) at =
      commit_watched q w n s x said h
      (subst (λ (o : Option Candidate). IfSome o (WasPrepared c)) at h.candidate)
      (subst (λ (o : Option Candidate). IfSome o (λ y. CandidateFits (position s) y)) at h.fits.candidate) at
      (may_follow Whole s x w n) refl

  -- ---- a message

  body_watched : (q : ℕ) (w : View) (s : Observing) (p : Peer) → Watched f c s → Has c.said (said_of p) → (b : Body) → p.body ≡ b
      → p.sender ≡ q → p.view ≡ w → TellsPlain b → Watched f c (on_body m Whole s w b)
  body_watched q w s p h said (bodies.SyncPrepare l) is sender view plain =
      prepare_watched q w l s (let e : said_of p ≡ says q w (SyncPrepare l.sync_point l.entries) = rw (is, sender, view) refl in rw e at said)
      plain h (loads m l && is_better Whole s.candidate w l)
  body_watched q w s p h said (bodies.SyncCommit n) is sender view plain =
      commit_by_watched q w n s (let e : said_of p ≡ says q w (SyncCommit n) = rw (is, sender, view) refl in rw e at said) h s.candidate refl
  body_watched q w s p h said body is sender view plain = h

  told_if_watched : (s : Observing) (p : Peer) → Watched f c s → Has c.said (said_of p) → TellsPlain p.body → (b : Bool)
      → Watched f c (told_if m Whole b s p)
  told_if_watched s p h said plain true = body_watched p.sender p.view s p h said p.body refl refl refl plain
  told_if_watched s p h said plain false = h

pub rows_are_watched : {S : Type 0} (m : Meaning S) → RowsAreWatched m
rows_are_watched m f c inv sync n s p h said plain =
    told_if_watched m f c inv sync s p h said plain (p.sender == leader_of p.view n)

-- ---- what is read

pub watched_read_main : {S : Type 0} (m : Meaning S) → WatchedReadMain m
watched_read_main {S} m f c inv sync v main is s h =
    let same : SameTo (position s) s.known.entries main = known_is_main m f c inv sync v main s is h in
    record {
      within = same.right;
      begins = same.same;
      members = history_of_prefix (take (position s) main) main (IsPrefixOf-take (position s) main);
      answers = λ op.
          ap (λ (x : Executed S). m.answer x.host op) (ap (exec m) same.same ∙ exec_is_of_history m (take (position s) main));
    }

candidate_begins : {S : Type 0} (m : Meaning S) (f : ℕ) (c : Conf) → Inv m f c → (o : Option Candidate) → IfSome o (WasPrepared c)
    → IfSome o (λ x. (lead : List Entry) × LeaderHad f c.past x.view lead × IsPrefixOf x.log.entries lead)
candidate_begins m f c inv None h = tt
candidate_begins m f c inv (Some x) h =
    let p : Prepared f c h.sender x.view x.log.entries = inv.said (says h.sender x.view (SyncPrepare x.log.sync_point x.log.entries)) h.said in
    (p.lead, p.leads, p.begins)

pub candidates_begin : {S : Type 0} (m : Meaning S) → CandidatesBegin m
candidates_begin m f c inv s h = candidate_begins m f c inv s.candidate h.candidate
