use Rattle.kv_resp.proofs.Words.{same_word}
use Rattle.kv_resp.proofs.requests.same_letters.Goals as goal

pub returns : goal.returns
returns c = same_word c.eq_ignore_ascii_case.result _ _ c.eq_ignore_ascii_case.ensures.test
