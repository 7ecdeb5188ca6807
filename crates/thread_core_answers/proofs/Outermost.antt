-- The outermost of the calls that wait is the first of the code's vector.
use Rattle.std.proofs.Common.{◌≡◌, List, [], ◌∷◌, ◌++◌, reverse, Some, None, ap, ◌∙◌, refl}
use Rattle.std.specs.Prelude.{slice_get}
use Rattle.std.proofs.lemmas.List.{reverse-append}
use Rattle.thread_steps.specs.Threads.{Frame}
use Rattle.thread_steps.specs.Next.{outermost}

last_is : (f g : Frame) (fs : List Frame) → outermost f (fs ++ g ∷ []) ≡ g
last_is f g [] = refl
last_is f g (h ∷ fs) = last_is h g fs

pub outermost_none : (f : Frame) (fs : List Frame) → slice_get fs 0 ≡ None → outermost f (reverse fs) ≡ f
outermost_none f [] e = refl
outermost_none f (g ∷ fs) e = cc

pub outermost_some : (f g : Frame) (fs : List Frame) → slice_get fs 0 ≡ Some g → outermost f (reverse fs) ≡ g
outermost_some f g [] e = cc
outermost_some f g (h ∷ fs) e = let k : h ≡ g = cc in ap (outermost f) (reverse-append (h ∷ []) fs) ∙ (last_is f h (reverse fs) ∙ k)
