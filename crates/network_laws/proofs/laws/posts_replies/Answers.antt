use Rattle.network_laws.proofs.Posted.{posts_replies}
use Rattle.network_laws.proofs.laws.posts_replies.Goals as goal

pub returns : goal.returns
returns c = posts_replies
