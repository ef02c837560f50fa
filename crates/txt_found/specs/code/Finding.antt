-- The policy records among texts, as the code keeps them.
use Rattle.std.specs.Prelude.{List, [], ◌∷◌, Option, Some, None}
use Rattle.policy.specs.declared.Settings.{Settings}
use Rattle.txt.specs.declared.Reply.{Reply}
use Rattle.txt_found.specs.declared.Found.{Found}

-- which policy records there are
unfoldable pub found_of : List Settings → Found
found_of [] = Found.Nothing
found_of (s ∷ []) = Found.One s
found_of (s ∷ r ∷ rs) = Found.Several

-- and with one more text
abbrev pub add_found : Option Settings → Found → Found
add_found None f = f
add_found (Some s) Found.Nothing = Found.One s
add_found (Some s) (Found.One r) = Found.Several
add_found (Some s) Found.Several = Found.Several

-- what they say of the name
abbrev pub found_reply : Found → Reply
found_reply Found.Nothing = Reply.NoRecord
found_reply (Found.One s) = Reply.Record s
found_reply Found.Several = Reply.NoRecord
