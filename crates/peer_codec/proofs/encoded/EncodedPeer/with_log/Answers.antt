use Rattle.std.proofs.Common.{ap, ◌∙◌, ◌++◌, List, ℕ}
use Rattle.peer_codec.specs.LogBodies.{log_message}
use Rattle.peer_codec.specs.Spelling.{spelling}
use Rattle.peer_codec.proofs.SpelledMessages.{stands_for, stands_spelled}
use Rattle.peer_codec.proofs.encoded.EncodedPeer.with_log.Goals as goal

pub invariant_of-result : goal.invariant_of-result
invariant_of-result c =
    let message = log_message c.args.sender c.args.view c.args.body in
    let before = c.new-bytes.ensures.items in
    let after = c.in_ok-encode_with_log.ensures.ok in
    stands_spelled _ message c.requires (after ∙ ap (λ (bytes : List ℕ). bytes ++ spelling message) before)

pub returns : goal.returns
returns c =
    let message = log_message c.args.sender c.args.view c.args.body in
    let before = c.new-bytes.ensures.items in
    let after = c.in_ok-encode_with_log.ensures.ok in
    stands_for _ message c.requires (after ∙ ap (λ (bytes : List ℕ). bytes ++ spelling message) before)
