-- The move `move_to` of a controller.
use Rattle.std.proofs.Common.{◌≡◌, ℕ, ◌<◌, ◌≤◌, false, refl, sym, ap, subst, ◌∙◌, inl, inr, arith}
use Rattle.nop_types.specs.Lists.{Has}
use Rattle.nop_types.specs.Meaning.{Meaning}
use Rattle.nop_types.specs.Sessions.{home}
use Rattle.lemmas.proofs.Members.{Has-first, Has-rest, Has-cases}
use Rattle.lemmas.proofs.Prefixes.{IsPrefixOf-refl}
use Rattle.protocol.specs.Conf.{Conf, Control, Install}
use Rattle.protocol.specs.Invariant.{TrueInstall, GoodControl, Inv}
use Rattle.protocol.specs.Moves.{move_to, MayMoveTo}
use Rattle.protocol.proofs.Growing.{Kept, lines_last}
use Rattle.protocol.proofs.Outside.{outside_keeps}
use Rattle.lemmas.proofs.Functions.{put-here, put-all}
use Rattle.protocol.proofs.Stays.{onward_refl, sequencer_lasts, control_lasts, client_lasts}

module _ {S : Type 0} (m : Meaning S) (f : ℕ) (c : Conf) (inv : Inv m f c) (k j s : ℕ) (may : MayMoveTo c k s) where
  abbrev d : Conf
  d = move_to c k j s

  abbrev now : Control
  now = record { session = s; current = j; confirmed = false }

  abbrev new : Install
  new = record { sequencer = j; session = s }

  -- an older session of this controller is lower
  older : (x : Install) → Has c.installs x → home x.session ≡ k → x.session < s
  older x i e = let t = inv.installs x i in let low : x.session ≤ (c.controllers k).session =
      subst (λ (n : ℕ). x.session ≤ (c.controllers n).session) e t.known in omega (arith, low, may.later)

  no_older : (i : ℕ) → Has c.installs (record { sequencer = i; session = s }) → ⊥
  no_older i h = let low = older (record { sequencer = i; session = s }) h may.own in omega (arith, low)

  now_here : d.controllers (home s) ≡ now
  now_here = subst (λ (n : ℕ). d.controllers n ≡ now) (sym may.own) (put-here c.controllers k now)

  true_new : TrueInstall d new
  true_new = record {
    low = omega (arith, may.later, (inv.controllers k).low);
    known = rw now_here (omega arith);
    current = λ e. rw now_here refl;
  }

  -- what is said of an older one is of another controller, or it is no longer the last
  abbrev Known : Install → Control → Type 0
  Known x t = (x.session ≤ t.session) × (x.session ≡ t.session → x.sequencer ≡ t.current)

  known : (x : Install) → Has c.installs x → Known x (d.controllers (home x.session))
  known x i = put-all (λ n t. n ≡ home x.session → Known x t) c.controllers k now
      (λ e. let low = older x i (sym e) in (omega (arith, low), λ same. absurd (omega (arith, low, same))))
      (λ n a e. subst (λ (n : ℕ). Known x (c.controllers n)) (sym e) (let t = inv.installs x i in (t.known, t.current)))
      (home x.session) refl

  true_installs : (x : Install) → Has d.installs x → TrueInstall d x
  true_installs x i = elim (Has-cases x new c.installs i) [
    | inl e ↦ subst (TrueInstall d) (sym e) true_new
    | inr old ↦ record { low = (inv.installs x old).low; known = (known x old).0; current = (known x old).1 }
  ]

  once : (a b n : ℕ) → Has d.installs (record { sequencer = a; session = n })
      → Has d.installs (record { sequencer = b; session = n }) → a ≡ b
  once a b n h g =
      elim (Has-cases (record { sequencer = a; session = n }) new c.installs h) [
        | inl e ↦ elim (Has-cases (record { sequencer = b; session = n }) new c.installs g) [
          | inl i ↦ ap (λ (x : Install). x.sequencer) (e ∙ sym i)
          | inr i ↦ absurd (no_older b (subst (λ (t : ℕ). Has c.installs (record { sequencer = b; session = t }))
              (ap (λ (x : Install). x.session) e) i))
        ]
        | inr e ↦ elim (Has-cases (record { sequencer = b; session = n }) new c.installs g) [
          | inl i ↦ absurd (no_older a (subst (λ (t : ℕ). Has c.installs (record { sequencer = a; session = t }))
              (ap (λ (x : Install). x.session) i) e))
          | inr i ↦ inv.installed_once a b n e i
        ]
      ]

  pub move_to_keeps : Kept m f c d
  move_to_keeps = outside_keeps m f c inv (record {
    sequencers = c.sequencers;
    clients = c.clients;
    controllers = d.controllers;
    requests = c.requests;
    stamps = c.stamps;
    installs = d.installs;
    lines = c.lines;
  })
      (record {
        requests = λ x i. i;
        stamps = λ p i. i;
        installs = λ x i. Has-rest x new c.installs i;
        lines = IsPrefixOf-refl c.lines;
        sequencers = λ i. onward_refl (c.sequencers i);
        controllers = put-all (λ n t. (c.controllers n).session ≤ t.session) c.controllers k now (omega (arith, may.later))
            (λ n a. omega arith);
        last_ids = λ i. omega arith;
      })
      (λ ev. record {
        requests = λ x i. inl i;
        stamps = λ p i. inl i;
        stamped_once = inv.stamped_once;
        sequencers = λ i. sequencer_lasts m f c d ev i (c.sequencers i) (inv.sequencers i);
        installs = true_installs;
        installed_once = once;
        controllers = put-all (λ n t. GoodControl d.installs t) c.controllers k now
            (record { low = omega (arith, may.later, (inv.controllers k).low); given = λ e. Has-first new new c.installs refl })
            (λ n a. control_lasts m f c d ev (c.controllers n) (inv.controllers n));
        lines = lines_last m f c d ev refl refl inv.lines;
        clients = λ i. client_lasts m f c d ev i (c.clients i) (inv.clients i);
      })
