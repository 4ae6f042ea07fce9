-- The role that a byte says: R a reader, W a writer, and any other none.
use Rattle.std.specs.Prelude.{ℕ, Bool, cond, ◌||◌, ◌==◌}
use Rattle.lines.specs.declared.place.Role.{Role}
use Rattle.lines.specs.declared.place.Role.TheVariants.{Reader, Writer}

-- a role is the byte R or W
abbrev pub is_role : ℕ → Bool
is_role b = b == 82 || b == 87

-- the role that such a byte says
abbrev pub role_of : ℕ → Role
role_of b = cond (b == 87) Writer Reader
