-- The opening meets what holds of sync points.
use Rattle.std.proofs.Common.{refl, arith, inl, []}
use Rattle.lemmas.proofs.Members.{Has-none}
use Rattle.started_views.proofs.Logs.{same_refl}
use Rattle.protocol.proofs.Facts.{half_of}
use Rattle.protocol_sync.specs.Laws.{OpeningIsSynced}

pub opening_is_synced : OpeningIsSynced
opening_is_synced f config count = record {
  reps = λ q w s i. absurd (Has-none _ i);
  commits = λ q w s i. absurd (Has-none _ i);
  points = record {
    entries = λ r v e h. absurd cc;
    starts = λ q w x z l i. absurd (Has-none _ i);
    prepares = λ q w z l i. absurd (Has-none _ i);
  };
  own = λ r l. record {
    count = half_of f config.replicas count;
    anchored = inl refl;
    agrees = record { lead = []; leads = refl; same = same_refl 0 [] (omega arith) };
    prepared = λ one. absurd (omega (arith, one));
    syncing = λ x e. absurd cc;
  };
}
