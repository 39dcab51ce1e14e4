-- Each configuration of a run is sound.
use Rattle.std.proofs.Common.{◌≡◌, ℕ, ◌+◌, ◌*◌, refl, subst, List, []}
use Rattle.nop_types.specs.Configuration.{Configuration}
use Rattle.nop_types.specs.Lists.{IsPrefixOf}
use Rattle.nop_types.specs.Meaning.{Meaning}
use Rattle.nop_types.specs.Views.{first_view, leader_of}
use Rattle.started_views.specs.Past.{IsStart}
use Rattle.started_views.proofs.Keeping.{main_log_exists}
use Rattle.protocol.specs.Conf.{Conf, opening, last_normals}
use Rattle.protocol.specs.Evolves.{Evolves}
use Rattle.protocol.specs.Invariant.{Inv}
use Rattle.protocol.specs.Runs.{Move, run, MayAll}
use Rattle.protocol.proofs.Opening.{opening_meets}
use Rattle.protocol.proofs.Grounding.{grounds_of}
use Rattle.protocol.proofs.Runs.{run_keeps}
use Rattle.lemmas.proofs.Options.{same_Some-at}
use Rattle.protocol_sync.specs.Laws.{Safe, RunsAreSound, RunsAreSafe, RunsGoOn}
use Rattle.protocol_sync.specs.Sound.{Sound, GoesOn}
use Rattle.protocol_sync.specs.Synced.{Sync}
use Rattle.protocol_sync.proofs.Agreeing.{synchronised_begin, synchronised_prefixes_agree}
use Rattle.protocol_sync.proofs.Concluding.{accepted_stand, lines_are_legal, open_is_never_stale}
use Rattle.protocol_sync.proofs.Opening.{opening_is_synced}
use Rattle.protocol_sync.proofs.Rising.{sync_points_never_fall}
use Rattle.protocol_sync.proofs.Runs.{run_syncs}
use Rattle.protocol_sync.proofs.SoundLogs.{logs_sound, numbers_sound, leaders_sound}
use Rattle.protocol_sync.proofs.SoundReplies.{replies_sound, accepts_sound}
use Rattle.protocol_sync.proofs.SoundStamps.{stamps_sound, sessions_sound, requests_submitted, kept_sent}
use Rattle.protocol_sync.proofs.SoundViews.{views_sound, starts_sound}
use Rattle.protocol_sync.proofs.SoundVotes.{votes_sound, sync_replies_sound, sync_points_sound}

sound : {S : Type 0} (m : Meaning S) (f : ℕ) (c : Conf) → Inv m f c → Sync f c → IsStart c.past first_view (record { next = 1; log = [] })
    → Sound m f c
sound m f c inv sync first = record {
  stamps = stamps_sound m f c inv;
  sessions = sessions_sound m f c inv;
  requests = requests_submitted m f c inv;
  kept = kept_sent m f c inv;
  views = views_sound m f c inv sync;
  starts = starts_sound m f c inv sync first;
  logs = logs_sound m f c inv;
  leaders = leaders_sound m f c inv sync;
  votes = votes_sound m f c inv sync;
  replies = replies_sound m f c inv;
  sync_replies = sync_replies_sound m f c inv sync;
  numbers = numbers_sound m f c inv;
  sync_points = sync_points_sound m f c inv sync;
  accepts = accepts_sound m f c inv;
}

module _ {S : Type 0} (m : Meaning S) (f : ℕ) (config : Configuration) (count : config.replicas ≡ 2 * f + 1) (xs : List Move)
    (may : MayAll m f (opening config) xs) where
  abbrev c : Conf
  c = run m f (opening config) xs

  kept : Inv m f c × Evolves f (opening config) c
  kept = run_keeps m f (opening config) xs (opening_meets m f config count) may

  synced : Sync f c
  synced = run_syncs m f (opening config) xs (opening_meets m f config count) (opening_is_synced f config count) may

  sound_now : Sound m f c
  sound_now = sound m f c kept.0 synced (kept.1.starts first_view (record { next = 1; log = [] }) refl)

  safe_now : Safe m f c
  safe_now =
      let main = main_log_exists f c.stamps (last_normals c) c.past (grounds_of m f c kept.0) in
      record {
        view = main.0;
        log = main.1;
        main = main.2;
        agreed = synchronised_prefixes_agree m f c kept.0 synced;
        begins = λ r l. synchronised_begin m f c kept.0 synced r l main.0 main.1 main.2;
        legal = lines_are_legal m f c kept.0 main.0 main.1 main.2;
        accepted = accepted_stand m f c kept.0 main.0 main.1 main.2;
        not_stale = open_is_never_stale m f c kept.0;
      }

  goes_on : (ys : List Move) → MayAll m f c ys → GoesOn f c (run m f c ys)
  goes_on ys more =
      let d = run m f c ys in
      let ev = (run_keeps m f c ys kept.0 more).1 in
      record {
        sessions = λ j. (ev.sequencers j).session;
        numbers = λ j. (ev.sequencers j).next;
        views = ev.views;
        last_normals = ev.normals;
        leaders = λ w l n h g.
            let k = ev.leads w l h in
            subst (IsPrefixOf l) (same_Some-at (d.past.log (leader_of w (2 * f + 1)) w) k.0 n k.1 g) k.2;
        starts = ev.starts;
        lines = ev.sent.lines;
        synchronised = sync_points_never_fall m f c ys kept.0 synced more;
      }

pub runs_are_sound : {S : Type 0} (m : Meaning S) → RunsAreSound m
runs_are_sound m f config xs count may = sound_now m f config count xs may

pub runs_are_safe : {S : Type 0} (m : Meaning S) → RunsAreSafe m
runs_are_safe m f config xs count may = safe_now m f config count xs may

pub runs_go_on : {S : Type 0} (m : Meaning S) → RunsGoOn m
runs_go_on m f config xs ys count may more = goes_on m f config count xs may ys more
