-- Replicas agree as far as they are synchronised.
use Rattle.std.proofs.Common.{ℕ, ◌+◌, ◌*◌, ◌<◌, inl, inr}
use Rattle.nop_types.specs.declared.view.View.{View}
use Rattle.nop_types.specs.Meaning.{Meaning}
use Rattle.started_views.specs.Settled as settled
use Rattle.started_views.proofs.Keeping.{synchronised_agree, main_log_exists}
use Rattle.started_views.proofs.Logs.{prefixes_agree}
use Rattle.protocol.specs.Conf.{Conf, last_normals}
use Rattle.protocol.proofs.Grounding.{grounds_of}
use Rattle.protocol_sync.specs.Laws.{SynchronisedBegin, SynchronisedAgree}
use Rattle.protocol_sync.specs.Synced.{Anchored, Sync}
use Rattle.protocol_sync.proofs.Lasting.{synced_fixes}

-- what is anchored was fixed
pub fixed_from : (f : ℕ) (c : Conf) → Sync f c → (w : View) (s : ℕ) → Anchored f c w s → settled.Anchored f c.past w s
fixed_from f c sync w s (inl e) = inl e
fixed_from f c sync w s (inr (u, low, x)) = inr (u, low, x.lead, synced_fixes f c sync u s x)

pub synchronised_begin : {S : Type 0} (m : Meaning S) → SynchronisedBegin m
synchronised_begin m f c inv sync r within v a main =
    let p = c.replicas r in
    let o = sync.own r within in
    let fixed = fixed_from f c sync p.last_normal p.sync.sync_point o.anchored in
    synchronised_agree f c.stamps (last_normals c) c.past (grounds_of m f c inv) v p.last_normal a o.agrees.lead p.log p.sync.sync_point
    main o.agrees.leads o.agrees.same fixed

pub synchronised_prefixes_agree : {S : Type 0} (m : Meaning S) → SynchronisedAgree m
synchronised_prefixes_agree m f c inv sync q r k ql rl qk rk =
    let main = main_log_exists f c.stamps (last_normals c) c.past (grounds_of m f c inv) in
    let begins = λ (i : ℕ) (l : i < 2 * f + 1). synchronised_begin m f c inv sync i l main.0 main.1 main.2 in
    prefixes_agree (c.replicas q).sync.sync_point (c.replicas r).sync.sync_point k (c.replicas q).log (c.replicas r).log main.1
    (sync.own q ql).agrees.same.left (sync.own r rl).agrees.same.left (begins q ql) (begins r rl) qk rk
