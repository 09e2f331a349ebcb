-- The whole image of R1.12 and images with one fault each, computed: one of each kind of place.
use Rattle.std.proofs.Common.{Ok, Err}
use Prim.Native.Nat.{ℕ}
use mathlib.Core.Path.{◌≡◌, refl}
use mathlib.Core.List.{List, [], ◌∷◌, ◌++◌, map}
use lib.ListN.{set, take}
use Rattle.wire.specs.Be.{be}
use Rattle.lists.specs.Search.{bad_from, every}
use Rattle.table_layout.specs.Layout.{rows_of, body_bytes, start_of, end_of, row_at, part_of, body_of, row_in}
use Rattle.table_rows.specs.Rows.{group_row, connection_row, route_row, destination_row}
use Rattle.table_rows.specs.Rules.{group_good, connection_good, route_good, destination_good, size_in, group_tcp, tcp_in, routes_share, destinations_share}
use Rattle.table_scan.specs.Scan.{share, clear_in, good_in}
use Rattle.table.specs.Table.{head_good, entry_good, rule, then_check, entries_place, head_place, all_rows_place, check_table}
use Rattle.table.specs.declared.BadTable.TheVariants.{At}

-- R1.12: a whole image, 86 bytes, one row of each kind
unfoldable pub example_image : List ℕ
example_image =
    0 ∷ 1 ∷ 0 ∷ 4
    ∷ 0 ∷ 1 ∷ 0 ∷ 1 ∷ 0 ∷ 0 ∷ 0 ∷ 0x24 ∷ 0 ∷ 2 ∷ 0 ∷ 1 ∷ 0 ∷ 0 ∷ 0 ∷ 0x26
    ∷ 0 ∷ 3 ∷ 0 ∷ 1 ∷ 0 ∷ 0 ∷ 0 ∷ 0x36 ∷ 0 ∷ 4 ∷ 0 ∷ 1 ∷ 0 ∷ 0 ∷ 0 ∷ 0x46
    ∷ 1 ∷ 0
    ∷ 0 ∷ 1 ∷ 0 ∷ 0 ∷ 0 ∷ 0 ∷ 0 ∷ 0 ∷ 5 ∷ 0xC0 ∷ 0 ∷ 0 ∷ 0 ∷ 0 ∷ 0 ∷ 1
    ∷ 0 ∷ 0 ∷ 0 ∷ 2 ∷ 0 ∷ 0 ∷ 1 ∷ 1 ∷ 0 ∷ 7 ∷ 0 ∷ 0 ∷ 0 ∷ 0 ∷ 0 ∷ 1
    ∷ 0 ∷ 1 ∷ 0 ∷ 2 ∷ 0 ∷ 0 ∷ 2 ∷ 2 ∷ 0 ∷ 9 ∷ 0 ∷ 0 ∷ 0 ∷ 0 ∷ 0 ∷ 0 ∷ []

-- its contents for two rows of kinds 3 and 4, and those rows: the second ones share with the first ones
unfoldable pub twice : List ℕ
twice =
    0 ∷ 1 ∷ 0 ∷ 4
    ∷ 0 ∷ 1 ∷ 0 ∷ 1 ∷ 0 ∷ 0 ∷ 0 ∷ 0x24 ∷ 0 ∷ 2 ∷ 0 ∷ 1 ∷ 0 ∷ 0 ∷ 0 ∷ 0x26
    ∷ 0 ∷ 3 ∷ 0 ∷ 2 ∷ 0 ∷ 0 ∷ 0 ∷ 0x36 ∷ 0 ∷ 4 ∷ 0 ∷ 2 ∷ 0 ∷ 0 ∷ 0 ∷ 0x56
    ∷ 1 ∷ 0
    ∷ 0 ∷ 1 ∷ 0 ∷ 0 ∷ 0 ∷ 0 ∷ 0 ∷ 0 ∷ 5 ∷ 0xC0 ∷ 0 ∷ 0 ∷ 0 ∷ 0 ∷ 0 ∷ 1
    ∷ 0 ∷ 0 ∷ 0 ∷ 2 ∷ 0 ∷ 0 ∷ 1 ∷ 1 ∷ 0 ∷ 7 ∷ 0 ∷ 0 ∷ 0 ∷ 0 ∷ 0 ∷ 1
    ∷ 0 ∷ 0 ∷ 0 ∷ 2 ∷ 0 ∷ 0 ∷ 1 ∷ 1 ∷ 0 ∷ 8 ∷ 0 ∷ 0 ∷ 0 ∷ 0 ∷ 0 ∷ 1
    ∷ 0 ∷ 1 ∷ 0 ∷ 2 ∷ 0 ∷ 0 ∷ 2 ∷ 2 ∷ 0 ∷ 9 ∷ 0 ∷ 0 ∷ 0 ∷ 0 ∷ 0 ∷ 0
    ∷ 0 ∷ 1 ∷ 0 ∷ 2 ∷ 0 ∷ 0 ∷ 2 ∷ 3 ∷ 0 ∷ 9 ∷ 0 ∷ 0 ∷ 0 ∷ 0 ∷ 0 ∷ 0 ∷ []

pub image-whole : check_table example_image ≡ Ok tt
unfolding example_image be bad_from every rows_of body_bytes start_of end_of row_at part_of body_of row_in group_row connection_row route_row destination_row
    group_good
    connection_good route_good destination_good size_in group_tcp tcp_in routes_share destinations_share share clear_in good_in head_good entry_good rule
    then_check entries_place head_place all_rows_place check_table
image-whole = refl

-- R20.1: a UDP connection may have any alive limit
pub image_limited : check_table (set (set example_image 48 255) 49 255) ≡ Ok tt
unfolding example_image be bad_from every rows_of body_bytes start_of end_of row_at part_of body_of row_in group_row connection_row route_row destination_row
    group_good
    connection_good route_good destination_good size_in group_tcp tcp_in routes_share destinations_share share clear_in good_in head_good entry_good rule
    then_check entries_place head_place all_rows_place check_table
image_limited = refl

-- R19.1: with its group TCP, its route may be marked
pub image-marked : check_table (set (set example_image 36 2) 55 1) ≡ Ok tt
unfolding example_image be bad_from every rows_of body_bytes start_of end_of row_at part_of body_of row_in group_row connection_row route_row destination_row
    group_good
    connection_good route_good destination_good size_in group_tcp tcp_in routes_share destinations_share share clear_in good_in head_good entry_good rule
    then_check entries_place head_place all_rows_place check_table
image-marked = refl

pub places :
    map check_table
    -- 0: shorter than 36; another edition; another number than 4
    (take 35 example_image ∷ set example_image 1 2 ∷ set example_image 3 5
    -- a contents entry: wrong kind, too many rows, wrong offset
    ∷ set example_image 5 2 ∷ set example_image 15 17 ∷ set example_image 27 0x37 ∷ set example_image 28 1
    -- 2: a byte too many, a byte too few
    ∷ (example_image ++ (0 ∷ [])) ∷ take 85 example_image
    -- the row: protocol 3; no group 1; send size 7; longest payload 1,465; trigger 2; 8 more than the longest payload do not fit
    ∷ set example_image 36 3 ∷ set example_image 38 1 ∷ set (set example_image 46 0) 47 7 ∷ set
    (set example_image 56 5) 57 0xB9 ∷ set example_image 71 2 ∷ set (set example_image 46 0) 47 8
    -- alive limits: 1 on TCP
    ∷ set (set example_image 36 2) 49 1
    -- transfer marks: 2 on TCP; 1 on UDP; 1 on TCP with a longest payload of 1,465
    ∷ set (set example_image 36 2) 55 2 ∷ set example_image 55 1 ∷ set (set (set (set example_image 36 2) 55 1) 56 5) 57 0xB9
    -- the later of two rows that share
    ∷ twice ∷ set twice 77 2 ∷ [])
    ≡
    Err (At 0) ∷ Err (At 0) ∷ Err (At 0)
    ∷ Err (At 4) ∷ Err (At 12) ∷ Err (At 20) ∷ Err (At 28)
    ∷ Err (At 2) ∷ Err (At 2)
    ∷ Err (At 36) ∷ Err (At 38) ∷ Err (At 38) ∷ Err (At 54) ∷ Err (At 70) ∷ Err (At 70)
    ∷ Err (At 38)
    ∷ Err (At 54) ∷ Err (At 54) ∷ Err (At 54)
    ∷ Err (At 70) ∷ Err (At 102) ∷ []
unfolding example_image twice be bad_from every rows_of body_bytes start_of end_of row_at part_of body_of row_in group_row connection_row route_row
    destination_row group_good
    connection_good route_good destination_good size_in group_tcp tcp_in routes_share destinations_share share clear_in good_in head_good entry_good rule
    then_check entries_place head_place all_rows_place check_table
places = refl
