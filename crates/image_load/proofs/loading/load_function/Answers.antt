-- `image_load::loading::load_function` meets its contract.
use borrow.Author.Rules.{rules}
use native.Mathlib.Omega.{arith}
use Rattle.image_load.proofs.Placing.{function_never, function_packs, function_inside, function_room, function_runs, function_filled}
use Rattle.image_load.proofs.loading.load_function.Goals as goal

pub returns-in_default : goal.returns-in_default
returns-in_default c = search (rules, function_never)

pub pack-name_word-requires : goal.pack-name_word-requires
pack-name_word-requires c = (function_packs _ _ _ _ _ _ _ _ _ _ c.requires _ c.read_head.ensures _ c.in-Ok.is).0

pub pack-code_word-requires : goal.pack-code_word-requires
pack-code_word-requires c = (function_packs _ _ _ _ _ _ _ _ _ _ c.requires _ c.read_head.ensures _ c.in-Ok.is).1

pub overflow_add-name_end : goal.overflow_add-name_end
overflow_add-name_end c =
    let z =
    (function_inside _ _ _ _ _ _ _ _ _ _ c.requires _ c.read_head.ensures _ c.in-Ok.is).0 in
    omega arith

pub put_bytes-requires : goal.put_bytes-requires
put_bytes-requires c = (function_room _ _ _ _ _ _ _ _ _ _ c.requires _ c.read_head.ensures _ c.in-Ok.is).0

pub overflow_add-code_end : goal.overflow_add-code_end
overflow_add-code_end c =
    let z =
    (function_inside _ _ _ _ _ _ _ _ _ _ c.requires _ c.read_head.ensures _ c.in-Ok.is).1 in
    omega arith

pub put_bytes-requires-2 : goal.put_bytes-requires-2
put_bytes-requires-2 c = (function_room _ _ _ _ _ _ _ _ _ _ c.requires _ c.read_head.ensures _ c.in-Ok.is).1

pub load_runs-next-requires : goal.load_runs-next-requires
load_runs-next-requires c = search (rules, function_runs)

pub returns : goal.returns
returns c =
    function_filled _ _ _ _ _ _ _ _ _ _ c.requires _ c.read_head.ensures _ c.in-Ok.is _ _
    c.pack-name_word.ensures c.pack-code_word.ensures _ _ _ _ c.put_words.ensures
    c.put_bytes.ensures c.put_bytes-2.ensures _ c.load_runs-next.ensures
