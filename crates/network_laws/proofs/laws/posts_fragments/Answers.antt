use Rattle.network_laws.proofs.PostedFragments.{posts_fragments}
use Rattle.network_laws.proofs.laws.posts_fragments.Goals as goal

pub returns : goal.returns
returns c = posts_fragments
