-- What each move of a replica does to sync points.
use Rattle.std.proofs.Common.{◌≡◌, ℕ, ◌+◌, ◌*◌, ◌<◌, Bool, true, false, cond, Option, refl, sym, ap, subst, ◌∙◌, arith, inl, inr, length}
use Rattle.std.proofs.Common.{List, []}
use Rattle.std.specs.Prelude.{◌==◌, nat_le, max}
use Rattle.std.proofs.lemmas.Bool.{cases_lt}
use Rattle.nop_types.specs.declared.view.View.{View}
use Rattle.nop_types.specs.declared.request.Entry.{Entry}
use Rattle.nop_types.specs.declared.datagram.Reply.{Reply}
use Rattle.nop_types.specs.Meaning.{Meaning}
use Rattle.nop_types.specs.Slots.{laid}
use Rattle.nop_types.specs.Views.{AtMost, Below, leader_of}
use Rattle.lemmas.proofs.Views.{AtMost-refl}
use Rattle.slot_votes.specs.Agreement.{Agreement}
use Rattle.lemmas.proofs.Members.{Has-append_left, Has-one, Has-first, Has-none}
use Rattle.oum_receiver.specs.Receiving.{Receiving}
use Rattle.started_views.specs.Past.{HadLog}
use Rattle.started_views.proofs.Logs.{same_less, same_from_prefix}
use Rattle.lemmas.proofs.Slots.{IsPrefixOf-laid}
use Rattle.lemmas.proofs.Prefixes.{IsPrefixOf-trans}
use Rattle.slot_votes.specs.Synchronisation.{Synchronisation}
use Rattle.protocol.specs.Conf.{Conf, Effect, DidSay, after}
use Rattle.protocol.specs.Invariant.{Own, Inv}
use Rattle.protocol.specs.LocalState.{LocalState, PlainGathering, leader, max_faults}
use Rattle.protocol.specs.Moves.{say, say_unless, entered, adopted, overlay, MayOverlay, obey, MayObey, repeat_commit, MayLead}
use Rattle.protocol.specs.Said.{Said, Word, SyncPrepare, SyncRep, SyncCommit, says}
use Rattle.protocol_sync.specs.Synced.{Anchored, Agrees, TrueSyncRep, TrueSyncCommit, HasPrepared, Sync}
use Rattle.protocol.specs.Truth.{Prepared}
use Rattle.protocol.proofs.Growing.{Kept}
use Rattle.protocol.proofs.Places.{leads_it, follows_it}
use Rattle.protocol_sync.proofs.Saying.{IsQuiet, SayGoodLogs, now, sync_after, quiet_after, quiet_none, none_say, one_says, unless_says}
use Rattle.protocol_sync.proofs.Lasting.{anchored_lasts, inside, risen}

-- who says one word says this one
pub said_one : (p : LocalState) (x y : Word) (q : ℕ) (w : View) → DidSay (say p x) q w y → (q ≡ p.number) × (w ≡ p.view) × (y ≡ x)
said_one p x y q w h =
    let e = Has-one (says q w y) (says p.number p.view x) h in
    (ap (λ (z : Said). z.sender) e, ap (λ (z : Said). z.view) e, ap (λ (z : Said). z.word) e)

pub said_all : (b : Bool) (p : LocalState) (x y : Word) (q : ℕ) (w : View) → DidSay (say_unless b p x) q w y
    → (q ≡ p.number) × (w ≡ p.view) × (y ≡ x)
said_all true p x y q w h = absurd (Has-none _ h)
said_all false p x y q w h = said_one p x y q w h

module _ {S : Type 0} (m : Meaning S) (f : ℕ) (c : Conf) (r : ℕ) (inv : Inv m f c) (sync : Sync f c) (within : r < 2 * f + 1) where
  abbrev p : LocalState
  p = c.replicas r

  own : Own f c r p
  own = inv.own r within

  -- a move in the view that leaves the sync point
  pub in_view : (l : List Entry) (n : ℕ) (x : Receiving) (g : Option Agreement) (h : Option PlainGathering) (said : List Said)
      (replies : List Reply)
      → Kept m f c (after f c r (record {
        state = record p { log = l; next = n; receiver = x; gap = g; changes = h };
        said = said;
        replies = replies;
      })) → IsQuiet said → SayGoodLogs f (after f c r (record {
        state = record p { log = l; next = n; receiver = x; gap = g; changes = h };
        said = said;
        replies = replies;
      })) said
      → Sync f (after f c r (record {
        state = record p { log = l; next = n; receiver = x; gap = g; changes = h };
        said = said;
        replies = replies;
      }))
  in_view l n x g h said replies kept quiet tells =
      let e : Effect = record {
        state = record p { log = l; next = n; receiver = x; gap = g; changes = h };
        said = said;
        replies = replies;
      } in
      let t = inside m f c (after f c r e) inv kept.1 sync r within l (now m f c r e inv sync within kept) in
      quiet_after m f c r e inv sync within kept quiet tells (record {
        count = t.count;
        anchored = t.anchored;
        agrees = t.agrees;
        prepared = t.prepared;
        syncing = t.syncing;
      })

  -- a view is entered
  pub entering : (v : View) (h : Option PlainGathering) (said : List Said)
      → Kept m f c (after f c r (record { state = record (entered p v) { changes = h }; said = said; replies = [] })) → IsQuiet said
      → SayGoodLogs f (after f c r (record { state = record (entered p v) { changes = h }; said = said; replies = [] })) said
      → Sync f (after f c r (record { state = record (entered p v) { changes = h }; said = said; replies = [] }))
  entering v h said kept quiet tells =
      let e : Effect = record { state = record (entered p v) { changes = h }; said = said; replies = [] } in
      let t = inside m f c (after f c r e) inv kept.1 sync r within p.log (now m f c r e inv sync within kept) in
      quiet_after m f c r e inv sync within kept quiet tells (record {
        count = t.count;
        anchored = t.anchored;
        agrees = t.agrees;
        prepared = λ one. absurd (omega (arith, one));
        syncing = λ x i. absurd cc;
      })

  -- of the own sync point and the one that is told the greater holds
  greater_anchored : (d : Conf) (v : View) (s z : ℕ) → Anchored f d v s → Anchored f d v z → Anchored f d v (max s z)
  greater_anchored d v s z a b = elim (cases_lt s z) [
    | inl low ↦ (let is : z ≡ max s z = omega (arith, low) in subst (Anchored f d v) is b)
    | inr high ↦ (let is : s ≡ max s z = omega (arith, high) in subst (Anchored f d v) is a)
  ]

  greater_agrees : (d : Conf) (v : View) (l : List Entry) (s z : ℕ) → Agrees f d v l s → Agrees f d v l z → Agrees f d v l (max s z)
  greater_agrees d v l s z a b = elim (cases_lt s z) [
    | inl low ↦ (let is : z ≡ max s z = omega (arith, low) in subst (Agrees f d v l) is b)
    | inr high ↦ (let is : s ≡ max s z = omega (arith, high) in subst (Agrees f d v l) is a)
  ]

  -- a log is adopted
  pub adopting : (v : View) (x z : ℕ) (l : List Entry) (said : List Said) (replies : List Reply) → Below p.last_normal v
      → Kept m f c (after f c r (record { state = adopted p v x z l; said = said; replies = replies })) → IsQuiet said
      → SayGoodLogs f (after f c r (record { state = adopted p v x z l; said = said; replies = replies })) said
      → Anchored f (after f c r (record { state = adopted p v x z l; said = said; replies = replies })) v z
      → Agrees f (after f c r (record { state = adopted p v x z l; said = said; replies = replies })) v l z
      → Sync f (after f c r (record { state = adopted p v x z l; said = said; replies = replies }))
  adopting v x z l said replies below kept quiet tells at_point agrees =
      let e : Effect = record { state = adopted p v x z l; said = said; replies = replies } in
      let d = after f c r e in
      let o = sync.own r within in
      quiet_after m f c r e inv sync within kept quiet tells (record {
        count = o.count;
        anchored = greater_anchored d v p.sync.sync_point z
            (anchored_lasts m f c d inv kept.1 p.last_normal v p.sync.sync_point below.at_most o.anchored) at_point;
        agrees = greater_agrees d v l p.sync.sync_point z
            (risen m f c d inv kept.1 sync r within kept.0 v l (now m f c r e inv sync within kept) below) agrees;
        prepared = λ one. absurd (omega (arith, one));
        syncing = λ y i. absurd cc;
      })

  -- the leader's log is taken
  pub overlaying : (z : ℕ) (l : List Entry) → MayOverlay c p z l → Kept m f c (after f c r (overlay m p z l))
      → Sync f (after f c r (overlay m p z l))
  overlaying z l may kept =
      let e = overlay m p z l in
      let d = after f c r e in
      let here = now m f c r e inv sync within kept in
      let view : p.last_normal ≡ p.view = own.place.normal may.normal in
      let other = follows_it m f c r inv within may.follows in
      let t : Prepared f c (leader p) p.view l = inv.said (says (leader p) p.view (SyncPrepare z l)) may.said in
      let good_log_point = sync.points.prepares (leader p) p.view z l may.said in
      let n = kept.1.leads p.view t.lead t.leads in
      let agrees : Agrees f d p.view (laid l p.log) (length l) = record {
        lead = n.0;
        leads = n.1;
        same = same_from_prefix (length l) l (laid l p.log) n.0 (omega arith) (IsPrefixOf-laid l p.log)
            (IsPrefixOf-trans l t.lead n.0 t.begins n.2);
      } in
      let voted : DidSay d.said r p.view (SyncRep (length l)) =
      Has-append_left e.said c.said _ (Has-first _ _ [] (λ i. says (sym own.number i) p.view (SyncRep (length l)))) in
      let had : HadLog d.past r p.view (laid l p.log) = subst (λ (w : View). HadLog d.past r w (laid l p.log)) view here in
      let new : HasPrepared f d r p.view p.status (laid l p.log) (length l) = record {
        normal = may.normal;
        follows = other;
        agrees = agrees;
        said = voted;
      } in
      let g = inside m f c d inv kept.1 sync r within (laid l p.log) here in
      sync_after m f c r e inv sync within kept
      (λ q w s h.
      let a = said_one p (SyncRep (length l)) (SyncRep s) q w h in
      let len : s ≡ length l = (let b = a.2 in cc) in
      subst (λ (i : ℕ). TrueSyncRep f d i w s) (sym (a.0 ∙ own.number))
      (subst (λ (v : View). TrueSyncRep f d r v s) (sym a.1)
      (subst (TrueSyncRep f d r p.view) (sym len) (record { apart = other; log = laid l p.log; had = had; agrees = agrees }))))
      (λ q w s h. absurd (let a = said_one p (SyncRep (length l)) (SyncCommit s) q w h in let b = a.2 in cc))
      (one_says f d p (SyncRep (length l)) tt)
      (record {
        count = g.count;
        anchored = greater_anchored d p.last_normal p.sync.sync_point z g.anchored
            (anchored_lasts m f c d inv kept.1 p.view p.last_normal z
            (subst (λ (w : View). AtMost w p.last_normal) view (AtMost-refl p.last_normal)) good_log_point.anchored);
        agrees = greater_agrees d p.last_normal (laid l p.log) p.sync.sync_point z g.agrees
            (subst (λ (w : View). Agrees f d w (laid l p.log) z) (sym view) (record {
              lead = agrees.lead;
              leads = agrees.leads;
              same = same_less (length l) z (laid l p.log) agrees.lead good_log_point.within agrees.same;
            }));
        prepared = λ one. elim (cases_lt p.sync.prepared (length l)) [
          | inl low ↦ (let is : length l ≡ max p.sync.prepared (length l) = omega (arith, low) in
              subst (HasPrepared f d r p.view p.status (laid l p.log)) is new)
          | inr high ↦ (let is : p.sync.prepared ≡ max p.sync.prepared (length l) = omega (arith, high) in
              subst (HasPrepared f d r p.view p.status (laid l p.log)) is (g.prepared (omega (arith, one, is))))
        ];
        syncing = λ x i. absurd (other (g.syncing x i).leads);
      })

  -- the sync point rises to what the leader says
  pub obeying : (k : ℕ) → MayObey c p k → Kept m f c (after f c r (obey p k)) → Sync f (after f c r (obey p k))
  obeying k may kept = at (nat_le k p.sync.prepared) refl kept
    where
      state : Bool → Synchronisation
      state b = cond b (record p.sync { sync_point = max p.sync.sync_point k }) p.sync

      at : (b : Bool) → nat_le k p.sync.prepared ≡ b
          → Kept m f c (after f c r
          (record {
            state = record p { sync = cond b (record p.sync { sync_point = max p.sync.sync_point k }) p.sync };
            said = [];
            replies = [];
          }))
          → Sync f (after f c r
          (record {
            state = record p { sync = cond b (record p.sync { sync_point = max p.sync.sync_point k }) p.sync };
            said = [];
            replies = [];
          }))
      at false is kept =
          let e : Effect = record { state = p; said = []; replies = [] } in
          let g = inside m f c (after f c r e) inv kept.1 sync r within p.log (now m f c r e inv sync within kept) in
          quiet_after m f c r e inv sync within kept quiet_none (none_say f (after f c r e)) (record {
            count = g.count;
            anchored = g.anchored;
            agrees = g.agrees;
            prepared = g.prepared;
            syncing = g.syncing;
          })
      at true is kept =
          let e : Effect = record {
            state = record p { sync = record p.sync { sync_point = max p.sync.sync_point k } };
            said = [];
            replies = [];
          } in
          let d = after f c r e in
          let view : p.last_normal ≡ p.view = own.place.normal may.may_follow.normal in
          let g = inside m f c d inv kept.1 sync r within p.log (now m f c r e inv sync within kept) in
          let t = sync.commits (leader p) p.view k may.may_follow.said in
          let fixed : Anchored f d p.last_normal k = anchored_lasts m f c d inv kept.1 p.view p.last_normal k
          (subst (λ (w : View). AtMost w p.last_normal) view (AtMost-refl p.last_normal)) t.anchored in
          quiet_after m f c r e inv sync within kept quiet_none (none_say f (after f c r e)) (record {
            count = g.count;
            anchored = elim (cases_lt p.sync.sync_point k) [
              | inl low ↦ (let is : k ≡ max p.sync.sync_point k = omega (arith, low) in subst (Anchored f d p.last_normal) is fixed)
              | inr high ↦ (let is : p.sync.sync_point ≡ max p.sync.sync_point k = omega (arith, high) in
                  subst (Anchored f d p.last_normal) is g.anchored)
            ];
            agrees = elim (cases_lt p.sync.sync_point k) [
              | inl low ↦
                  let is : k ≡ max p.sync.sync_point k = omega (arith, low) in
                  let h = g.prepared (omega (arith, low, may.within)) in
                  let there : Agrees f d p.last_normal p.log k = subst (λ (w : View). Agrees f d w p.log k) (sym view)
                  (record {
                    lead = h.agrees.lead;
                    leads = h.agrees.leads;
                    same = same_less p.sync.prepared k p.log h.agrees.lead may.within h.agrees.same;
                  }) in
                  subst (Agrees f d p.last_normal p.log) is there
              | inr high ↦ (let is : p.sync.sync_point ≡ max p.sync.sync_point k = omega (arith, high) in
                  subst (Agrees f d p.last_normal p.log) is g.agrees)
            ];
            prepared = g.prepared;
            syncing = λ x i. absurd (follows_it m f c r inv within may.may_follow.follows (g.syncing x i).leads);
          })

  -- what is synchronised is said again
  pub repeating : MayLead p → Kept m f c (after f c r (repeat_commit p)) → Sync f (after f c r (repeat_commit p))
  repeating may kept =
      let e = repeat_commit p in
      let d = after f c r e in
      let view : p.last_normal ≡ p.view = own.place.normal may.normal in
      let g = inside m f c d inv kept.1 sync r within p.log (now m f c r e inv sync within kept) in
      let start = kept.1.starts p.last_normal own.place.start own.place.is_start in
      let true_here : TrueSyncCommit f d r p.view p.sync.sync_point = subst (λ (w : View). TrueSyncCommit f d r w p.sync.sync_point) view
      (record {
        sender = leads_it m f c r inv within may.leads ∙ ap (λ (w : View). leader_of w (2 * f + 1)) (sym view);
        started = (own.place.start, start);
        anchored = g.anchored;
      }) in
      sync_after m f c r e inv sync within kept
      (λ q w s h. absurd (let a = said_all (max_faults p == 0) p (SyncCommit p.sync.sync_point) (SyncRep s) q w h in let b = a.2 in cc))
      (λ q w s h.
      let a = said_all (max_faults p == 0) p (SyncCommit p.sync.sync_point) (SyncCommit s) q w h in
      let len : s ≡ p.sync.sync_point = (let b = a.2 in cc) in
      subst (λ (i : ℕ). TrueSyncCommit f d i w s) (sym (a.0 ∙ own.number)) (subst (λ (v : View). TrueSyncCommit f d r v s) (sym a.1)
      (subst (TrueSyncCommit f d r p.view) (sym len) true_here)))
      (unless_says (max_faults p == 0) f d p (SyncCommit p.sync.sync_point) tt)
      (record { count = g.count; anchored = g.anchored; agrees = g.agrees; prepared = g.prepared; syncing = g.syncing })
