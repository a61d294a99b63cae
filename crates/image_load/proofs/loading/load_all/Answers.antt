-- `image_load::loading::load_all` meets its contract.
use borrow.Author.Rules.{rules}
use Rattle.image_load.proofs.Loads.{fit_constants, fit_structs, fit_functions, all_laid_lem}
use Rattle.image_load.proofs.loading.load_all.Goals as goal

pub load_constants-c-requires : goal.load_constants-c-requires
load_constants-c-requires c = search (rules, fit_constants)

pub load_structs-s-requires : goal.load_structs-s-requires
load_structs-s-requires c = search (rules, fit_structs)

pub load_functions-requires : goal.load_functions-requires
load_functions-requires c =
    fit_functions c.args.image.now c.args.constants.now c.args.structs.now
    c.args.functions.now c.args.text.now c.args.main.now c.args.main_places.now
    c.args.other.now c.args.other_places.now c.requires _ _ _
    c.load_constants-c.ensures _ _ _ c.load_structs-s.ensures

pub returns : goal.returns
returns c =
    all_laid_lem c.args.image.now c.args.constants.now c.args.structs.now
    c.args.functions.now c.args.text.now c.args.main.now c.args.main_places.now
    c.args.other.now c.args.other_places.now c.requires _ _ _
    c.load_constants-c.ensures _ _ _ c.load_structs-s.ensures _ _ _ _ _ _
    c.load_functions.ensures
