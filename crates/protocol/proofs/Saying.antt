-- What a replica says is true.
use Rattle.std.proofs.Common.{◌≡◌, ℕ, ◌+◌, ◌*◌, ◌<◌, Bool, true, false, Some, refl, sym, subst, ◌∙◌, List, []}
use Rattle.nop_types.specs.declared.view.View.{View}
use Rattle.nop_types.specs.declared.request.Entry.{Entry}
use Rattle.nop_types.specs.declared.request.Entry.TheVariants.{NoOp}
use Rattle.nop_types.specs.Lists.{Has, slot_of}
use Rattle.nop_types.specs.Meaning.{Meaning}
use Rattle.started_views.specs.Past.{HadLog}
use Rattle.lemmas.proofs.Members.{Has-none, Has-one}
use Rattle.lemmas.proofs.Slots.{slot_of-prefix}
use Rattle.slot_votes.specs.Synchronisation.{Synchronisation}
use Rattle.protocol.specs.Conf.{Conf, after}
use Rattle.protocol.specs.Evolves.{Evolves}
use Rattle.protocol.specs.Invariant.{Own, Inv, GoodLog}
use Rattle.protocol.specs.LocalState.{LocalState, leader}
use Rattle.protocol.specs.Moves.{say_unless, MayFollow}
use Rattle.protocol.specs.Said.{Word, Found, GapCommit, GapRep, says, Said, Plain, ViewChange, StartView, SyncPrepare, SyncRep, SyncCommit}
use Rattle.protocol.specs.Truth.{LeaderHas, Answered, MayRepeat, TrueWord}
use Rattle.protocol.proofs.Growing.{Kept}
use Rattle.protocol.proofs.Stays.{log_lasts, own_lasts}
use Rattle.protocol.proofs.Local.{turns_same, local_keeps}
use Rattle.protocol.proofs.Places.{follows_it, by_number}
use Rattle.nop_types.specs.declared.replica_state.Phase.{Phase}
use Rattle.nop_types.specs.declared.replica_state.Phase.TheVariants.{Normal, Change}
use Rattle.protocol.proofs.Spoken.{IsSpokenIn}

-- what is said unless the replica is alone
pub said_unless : (f : ℕ) (d : Conf) (p : LocalState) (x : Word) → TrueWord f d p.number p.view x → (b : Bool) (y : Said)
    → Has (say_unless b p x) y → TrueWord f d y.sender y.view y.word
said_unless f d p x t true y i = absurd (Has-none y i)
said_unless f d p x t false y i = subst (λ (z : Said). TrueWord f d z.sender z.view z.word) (sym (Has-one y (says p.number p.view x) i)) t

-- what may be said again is true
pub true_again : (f : ℕ) (c : Conf) (q : ℕ) (w : View) (x : Word) → MayRepeat f c q w x → TrueWord f c q w x
true_again f c q w Plain t = t
true_again f c q w (Found k r) t = t
true_again f c q w (GapCommit k) t = t
true_again f c q w (GapRep k) t = t
true_again f c q w (ViewChange u x z l) t = t
true_again f c q w (StartView x z l) t = t
true_again f c q w (SyncPrepare z l) t = t
true_again f c q w (SyncRep k) t = absurd t
true_again f c q w (SyncCommit k) t = absurd t

-- no replica is in Normal and in Change
pub not_both : {a : Phase} → a ≡ Normal → a ≡ Change → ⊥
not_both e g = let both : Normal ≡ Change = sym e ∙ g in cc

module _ {S : Type 0} (m : Meaning S) (f : ℕ) (c : Conf) (r : ℕ) (inv : Inv m f c) (within : r < 2 * f + 1) where
  abbrev p : LocalState
  p = c.replicas r

  own : Own f c r p
  own = inv.own r within

  -- the log that stayed
  log_same : (d : Conf) → Evolves f c d → GoodLog f d r p.last_normal p.log
  log_same d ev = log_lasts m f c d ev r p.last_normal p.log (inv.logs r p.last_normal p.log (inv.current r within))

  -- something is said, and in Normal the sync point may change
  pub speaks : (s : Synchronisation) (said : List Said) → (p.status ≡ Change → s.sync_point ≡ p.sync.sync_point)
      → IsSpokenIn p.view said
      → ((d : Conf) → Evolves f c d → HadLog d.past r p.last_normal p.log → (y : Said) → Has said y → TrueWord f d y.sender y.view y.word)
      → Kept m f c (after f c r (record { state = record p { sync = s }; said = said; replies = [] }))
  speaks s said still spoken words =
      local_keeps m f c r (record { state = record p { sync = s }; said = said; replies = [] }) inv within refl refl (turns_same f c r) (λ d ev had.
      let o : Own f d r p = own_lasts m f c d ev r p own in
      record {
        log = log_same d ev;
        spoken = spoken;
        said = words d ev had;
        replies = λ y i. absurd (Has-none y i);
        own = record {
          number = o.number;
          replicas = o.replicas;
          place = record {
            normal = o.place.normal;
            change = o.place.change;
            start = o.place.start;
            is_start = o.place.is_start;
            counted = o.place.counted;
            base = o.place.base;
          };
          queue = o.queue;
          gap = o.gap;
          changes = record {
            entered = λ n. subst (λ (k : ℕ). d.past.entry r p.view
                ≡ Some (record { last_normal = p.last_normal; next = p.next; sync_point = k; log = p.log }))
                (sym (still n)) (o.changes.entered n);
            gathers = o.changes.gathers;
            leads = o.changes.leads;
          };
        };
      })

  -- the answer, once the NO-OP is in the log
  pub answered : (d : Conf) → Evolves f c d → (l : List Entry) (k : ℕ) → MayFollow c p (GapCommit k) → HadLog d.past r p.last_normal l
      → slot_of l k ≡ Some NoOp → Answered f d p.number p.view k
  answered d ev l k may had e =
      let t : LeaderHas f c (leader p) p.view k NoOp = inv.said (says (leader p) p.view (GapCommit k)) may.said in
      let n = ev.leads p.view t.lead t.leads in
      record {
        apart = λ a. follows_it m f c r inv within may.follows (sym own.number ∙ a);
        log = l;
        had = by_number m f c r inv within d l (own.place.normal may.normal) had;
        noop = e;
        lead = n.0;
        leads = n.1;
        leads_noop = slot_of-prefix t.lead n.0 k NoOp n.2 t.entry;
      }
