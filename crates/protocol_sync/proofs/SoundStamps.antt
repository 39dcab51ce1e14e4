-- What was stamped, submitted and kept is sound.
use Rattle.std.proofs.Common.{◌≡◌, ℕ, ◌+◌, ◌*◌, ◌<◌, ◌≤◌, Some, sym, subst, ◌∙◌, inl, inr, arith, List}
use Rattle.nop_types.specs.declared.view.View.{View}
use Rattle.nop_types.specs.declared.request.Request.{Request}
use Rattle.nop_types.specs.declared.request.Entry.{Entry}
use Rattle.nop_types.specs.declared.request.Entry.TheVariants.{Req}
use Rattle.nop_types.specs.Lists.{IsPrefixOf}
use Rattle.nop_types.specs.Meaning.{Meaning}
use Rattle.nop_types.specs.Sessions.{home}
use Rattle.nop_types.specs.Stamps.{WasStamped}
use Rattle.nop_types.specs.Views.{leader_of}
use Rattle.lemmas.proofs.Prefixes.{IsPrefixOf-take, Has-prefix}
use Rattle.lemmas.proofs.Slots.{Has-slot_of}
use Rattle.client_quorum.proofs.OpenRequests.{kept_is_open, open_has}
use Rattle.log_merge.specs.Starting.{Start}
use Rattle.started_views.specs.Past.{Entered, HadLog, LeaderHad, IsStart}
use Rattle.protocol.specs.Conf.{Conf, WasSubmitted, Owns, HasOwner}
use Rattle.protocol.specs.Invariant.{Inv}
use Rattle.protocol.specs.Said.{Found, ViewChange, StartView, SyncPrepare, says}
use Rattle.protocol.specs.Truth.{LeaderHas, Begun, Prepared}
use Rattle.lemmas.proofs.Options.{same_Some-at}
use Rattle.protocol_sync.specs.Sound.{StampsAreSound, SessionIsSound, SessionsAreSound, AreSubmitted, RequestsAreSubmitted}
use Rattle.protocol_sync.specs.Sound.{KeptWasSent}

module _ {S : Type 0} (m : Meaning S) (f : ℕ) (c : Conf) (inv : Inv m f c) where
  -- ---- sessions

  one_owner : (i j session : ℕ) → Owns c.installs i session → Owns c.installs j session → i ≡ j
  one_owner i j session (inl (a, one)) (inl (b, two)) = a ∙ sym b
  one_owner i j session (inl (a, one)) (inr y) = absurd (let t = inv.installs (record { sequencer = j; session = session }) y in
      omega (arith, t.low, one))
  one_owner i j session (inr x) (inl (b, two)) = absurd (let t = inv.installs (record { sequencer = i; session = session }) x in
      omega (arith, t.low, two))
  one_owner i j session (inr x) (inr y) = inv.installed_once i j session x y

  low_session : (j session : ℕ) → Owns c.installs j session → 1 ≤ session
  low_session j session (inl (a, one)) = omega (arith, one)
  low_session j session (inr x) = let t = inv.installs (record { sequencer = j; session = session }) x in omega (arith, t.low)

  known : (j session : ℕ) → Owns c.installs j session → session ≤ (c.controllers (home session)).session
  known j session (inl (a, one)) = let low = (inv.controllers (home session)).low in omega (arith, low, one)
  known j session (inr x) = (inv.installs (record { sequencer = j; session = session }) x).known

  pub stamps_sound : StampsAreSound c
  stamps_sound = record {
    once = λ a b h g s n.
        let there : WasStamped c.stamps a.session a.number b.request = subst (λ (i : ℕ). WasStamped c.stamps i a.number b.request) (sym s)
        (subst (λ (i : ℕ). WasStamped c.stamps b.session i b.request) (sym n) g) in
        let r : a.request ≡ b.request = inv.stamped_once a.session a.number a.request b.request h there in
        λ i. record { session = s i; number = n i; request = r i };
    stamped = λ p i. let t = inv.stamps p i in (t.owner, t.owns);
    sequencers = λ j one. (inv.sequencers j).owns one;
    one_owner = one_owner;
    known = known;
    passed = λ p j i e.
        let t = inv.stamps p i in
        let low = low_session t.owner p.session t.owns in
        let mine : Owns c.installs j p.session = subst (Owns c.installs j) (sym e) ((inv.sequencers j).owns (omega (arith, low, e))) in
        let same : t.owner ≡ j = one_owner t.owner j p.session t.owns mine in
        let at : p.session ≡ (c.sequencers t.owner).session = subst (λ (k : ℕ). p.session ≡ (c.sequencers k).session) (sym same) e in
        subst (λ (k : ℕ). p.number < (c.sequencers k).next) same (t.passed at);
  }

  -- ---- the sessions of views

  session_sound : (session : ℕ) → HasOwner c.installs session → SessionIsSound c session
  session_sound session (j, owns) = record { owner = j; owns = owns; known = known j session owns }

  pub sessions_sound : SessionsAreSound c
  sessions_sound = record {
    views = λ r. session_sound (c.replicas r).view.session (inv.views r);
    had = λ r w l h. session_sound w.session (inv.logs r w l h).session;
    said = λ x i. session_sound x.view.session (inv.said_views x i);
    replies = λ p i.
        let t = inv.replies p i in
        session_sound p.view.session (inv.logs p.replica p.view t.log t.had).session;
  }

  -- ---- requests

  had : (r : ℕ) (w : View) (l : List Entry) → HadLog c.past r w l → AreSubmitted c l
  had r w l h q i = (inv.logs r w l h).submitted q i

  entered : (r : ℕ) (v : View) (e : Entered) → c.past.entry r v ≡ Some e → AreSubmitted c e.log
  entered r v e h = had r e.last_normal e.log (inv.entries r v e h).log

  -- a prefix of a leader's log
  of_leader : (w : View) (l m : List Entry) → LeaderHad f c.past w m → IsPrefixOf l m → AreSubmitted c l
  of_leader w l m led is q i = had (leader_of w (2 * f + 1)) w m led q (Has-prefix l m (Req q) is i)

  started : (w : View) (x : Start) → IsStart c.past w x → AreSubmitted c x.log
  started w x is =
      let t = inv.starts w x is in
      let good = inv.logs (leader_of w (2 * f + 1)) w t.lead t.leads in
      let same : good.start ≡ x = same_Some-at (c.past.start w) good.start x good.is_start is in
      of_leader w x.log t.lead t.leads (subst (λ (y : Start). IsPrefixOf y.log t.lead) same good.begins)

  stamped : (session number : ℕ) (q : Request) → WasStamped c.stamps session number q → WasSubmitted c.lines q
  stamped session number q h = (inv.stamps (record { session = session; number = number; request = q }) h).submitted

  pub requests_submitted : RequestsAreSubmitted f c
  requests_submitted = record {
    sent = inv.requests;
    stamped = λ p i. (inv.stamps p i).submitted;
    opened = λ k q i. ((inv.clients k).opened q i).submitted;
    queued = λ r number q l e. stamped (c.replicas r).receiver.session number q ((inv.own r l).queue.queued number q e);
    logged = λ r l. had r (c.replicas r).last_normal (c.replicas r).log (inv.current r l);
    had = had;
    entered = entered;
    started = started;
    gathered = λ r g x l e i.
        let entry = ((inv.own r l).changes.gathers g e).entries x i in
        entered x.sender (c.replicas r).view
        (record { last_normal = x.last_normal; next = x.next; sync_point = x.sync_point; log = x.log }) entry;
    found = λ q w k r h.
        let t : LeaderHas f c q w k (Req r) = inv.said (says q w (Found k r)) h in
        let there = Has-prefix _ t.lead (Req r) (IsPrefixOf-take k t.lead) (Has-slot_of t.lead k (Req r) t.entry) in
        had (leader_of w (2 * f + 1)) w t.lead t.leads r there;
    changes = λ q w u x z l h.
        entered q w (record { last_normal = u; next = x; sync_point = z; log = l }) (inv.said (says q w (ViewChange u x z l)) h);
    starts = λ q w x z l h. let t : Begun f c q w x l = inv.said (says q w (StartView x z l)) h in of_leader w l t.lead t.leads t.begins;
    prepares = λ q w z l h. let t : Prepared f c q w l = inv.said (says q w (SyncPrepare z l)) h in of_leader w l t.lead t.leads t.begins;
  }

  -- ---- what is kept

  pub kept_sent : KeptWasSent f c
  kept_sent = record {
    queued = λ r number q l e.
        let own = inv.own r l in
        subst (λ (s : ℕ). WasStamped c.stamps s number q) own.queue.session (own.queue.queued number q e);
    replies = λ k id p i. ((inv.clients k).kept id p i).sent;
    expected = λ k id p i.
        let t = (inv.clients k).kept id p i in
        let q = open_has (c.clients k) id (kept_is_open (c.clients k) id p i) in
        let its = (inv.clients k).opened q.0 q.1 in
        (q.0, q.1, record { same_client = its.client ∙ sym (inv.clients k).number ∙ sym t.client; same_id = q.2 ∙ sym t.id });
  }
