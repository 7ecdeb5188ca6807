-- Typings that grow.
use Rattle.lam_machine_means.specs.Typing.{Typing, Extends}

pub same_typing : (G : Typing) → Extends G G
same_typing G n x e = e

pub further : (G H J : Typing) → Extends G H → Extends H J → Extends G J
further G H J a b n x e = b n x (a n x e)
