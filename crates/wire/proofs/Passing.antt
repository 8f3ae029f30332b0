-- What a reading that gave something went through.
use Rattle.std.proofs.Common.{◌≡◌, Bool, true, false, cond, Some, None, Option, refl}
use Rattle.std.specs.Option.{option_map}
use Rattle.std.proofs.lemmas.Option.{none-some, same_Some}

pub passed : {A : Type 0} (b : Bool) (o : Option A) (a : A) → cond b o None ≡ Some a → (b ≡ true) × (o ≡ Some a)
passed true o a e = (refl, e)
passed false o a e = absurd (none-some a e)

pub from_mapped : {A B : Type 0} (f : A → B) (o : Option A) (b : B) → option_map f o ≡ Some b → (a : A) × (o ≡ Some a) × (f a ≡ b)
from_mapped f None b e = absurd (none-some b e)
from_mapped f (Some a) b e = (a, refl, same_Some (f a) b e)
