use Rattle.tree_laws.proofs.OneRay.{one_key, one_column}
use Rattle.tree_laws.proofs.shown_ray_is_one.Goals as goal

pub returns : goal.returns
returns c space root key other home t u s r y h f g (shown, along) (shows, there) = (
  one_key space root home h y key other t u s r f g shown shows along there,
  one_column space root home h y key other t u s r f g shown shows along there,
)
