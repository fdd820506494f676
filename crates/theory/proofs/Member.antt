-- The kit's membership in a list and permutations of a list, under short names.
-- Assumes nothing.
pub use mathlib.Core.List.Memᴰ.{append_cases}
pub use mathlib.Core.List.Memᴰ.{cases_cons}
pub use mathlib.Core.List.Memᴰ.{eq_of_singleton}
pub use mathlib.Core.List.Memᴰ.{head}
pub use mathlib.Core.List.Memᴰ.{not-nil}
pub use mathlib.Core.List.Memᴰ.{tail}
pub use mathlib.Core.List.{Memᴰ as In}
pub use mathlib.Core.List.Memᴰ.{append_left}
pub use mathlib.Core.List.Memᴰ.{append_right}
pub use mathlib.Core.List.Memᴰ.{cast}
pub use mathlib.Core.List.Memᴰ.{map as in_map}
pub use mathlib.Core.List.Memᴰ.{of_map as map-in}
pub use mathlib.Core.List.Permᴰ.{cons}
pub use mathlib.Core.List.Permᴰ.{nil}
pub use mathlib.Core.List.Permᴰ.{refl as perm-refl}
pub use mathlib.Core.List.Permᴰ.{swap}
pub use mathlib.Core.List.Permᴰ.{symm as perm-sym}
pub use mathlib.Core.List.Permᴰ.{trans}
pub use mathlib.Core.List.{Permᴰ as Perm}
