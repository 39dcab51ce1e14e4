-- The protocol begins where the actors begin.
use Rattle.std.proofs.Common.{refl}
use Rattle.nop_types.specs.Meaning.{Meaning}
use Rattle.lemmas.proofs.Members.{Has-none}
use Rattle.protocol.proofs.Opening.{opening_meets}
use Rattle.protocol_sync.proofs.Above.{gaps_open_above}
use Rattle.protocol_sync.proofs.Opening.{opening_is_synced}
use Rattle.refinement.specs.Openings.{OpeningsMatch}

pub openings_match : {S : Type 0} (m : Meaning S) → OpeningsMatch m
openings_match m f config count = record {
  replicas = λ r within. record {
    within = within;
    inv = opening_meets m f config count;
    sync = opening_is_synced f config count;
    above = gaps_open_above f config;
    state = refl;
    points = refl;
  };
  sequencers = λ j. refl;
  clients = λ k. refl;
  controllers = λ k. refl;
  sent = record {
    requests = λ r h. absurd (Has-none r h);
    stamps = λ p h. absurd (Has-none p h);
    replies = λ p h. absurd (Has-none p h);
    installs = λ x h. absurd (Has-none x h);
  };
}
