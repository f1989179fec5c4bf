use Rattle.std.proofs.Common.{◌≤◌, ◌∙◌, length, sym, subst}
use Rattle.std.proofs.lemmas.List.{length-map}
use Rattle.limits.specs.Limits.{column_limit}
use Rattle.mixed_model.specs.Layers.{Layers, layered_matrix_of}
use Rattle.independent_matching.proofs.EditSteps.{put-column, put-q, put-q-count, put-q-few, put-q-room, put-t, put-t-few}
use Rattle.independent_matching.proofs.EditSteps.{put-t-room, put-t-row, put-t-width, room-kept, told-of}
use Rattle.independent_matching.proofs.pair.Pair.put_in.Goals as goal

pub insert_column-requires-clause-at : goal.insert_column-requires-clause-at
insert_column-requires-clause-at g c =
    let R = c.requires.putting in
    put-column g.F.Field.modulus (layered_matrix_of c.args.new.now) R.L c.args.at R.thinned R.least (g.T.Tableau.room_of c.args.self.now.tableau)
    (g.T.Tableau.state c.args.self.now.tableau) c.args.self.now.mates R.edited

pub insert_t_row-requires-clause-at : goal.insert_t_row-requires-clause-at
insert_t_row-requires-clause-at g c =
    let R = c.requires.putting in
    let now = c.insert_column.new.self in
    put-t g.F.Field.modulus (layered_matrix_of c.args.new.now) R.L c.args.at R.thinned R.least (g.T.Tableau.room_of now.tableau)
    (g.T.Tableau.state now.tableau) now.mates (c.insert_column.ensures.edited R.L R.thinned.without_t R.least R.thinned.column R.edited)

pub insert_t_row-requires-clause-few : goal.insert_t_row-requires-clause-few
insert_t_row-requires-clause-few g c =
    let R = c.requires.putting in
    let now = c.insert_column.new.self in
    put-t-few g.F.Field.modulus (layered_matrix_of c.args.new.now) R.L c.args.at R.thinned R.least (g.T.Tableau.room_of now.tableau)
    (g.T.Tableau.state now.tableau) now.mates (c.insert_column.ensures.edited R.L R.thinned.without_t R.least R.thinned.column R.edited)
    column_limit (subst (λ (l : Layers). length l.t.rows ≤ column_limit) c.new.view_is c.is_pattern.ensures.few)

pub insert_t_row-requires-clause-width : goal.insert_t_row-requires-clause-width
insert_t_row-requires-clause-width g c =
    let R = c.requires.putting in
    let now = c.insert_column.new.self in
    put-t-width g.F.Field.modulus (layered_matrix_of c.args.new.now) R.L c.args.at R.thinned R.least (g.T.Tableau.room_of now.tableau)
    (g.T.Tableau.state now.tableau) now.mates (c.insert_column.ensures.edited R.L R.thinned.without_t R.least R.thinned.column R.edited)
    c.args.new.now.t.width c.are_layers.ensures.same_columns

pub insert_t_row-requires-clause-room : goal.insert_t_row-requires-clause-room
insert_t_row-requires-clause-room g c =
    let R = c.requires.putting in
    let K = layered_matrix_of c.args.new.now in
    let old = c.args.self.now in
    let now = c.insert_column.new.self in
    put-t-room g.F.Field.modulus K R.L c.args.at R.thinned R.least (g.T.Tableau.room_of now.tableau)
    (g.T.Tableau.state now.tableau) now.mates (c.insert_column.ensures.edited R.L R.thinned.without_t R.least R.thinned.column R.edited)
    (room-kept K.q_rows K.t_rows K.columns (g.T.Tableau.room_of old.tableau) (g.T.Tableau.room_of now.tableau) old.mates now.mates
    c.insert_column.ensures.room c.requires.room)

pub insert_q_row-requires-clause-at : goal.insert_q_row-requires-clause-at
insert_q_row-requires-clause-at g c =
    let R = c.requires.putting in
    let now = c.insert_t_row.new.self in
    put-q g.F.Field.modulus (layered_matrix_of c.args.new.now) R.L c.args.at R.thinned R.least (g.T.Tableau.room_of now.tableau)
    (g.T.Tableau.state now.tableau) now.mates (c.insert_t_row.ensures.edited R.thinned.without_t R.thinned.without_q R.least R.thinned.t
    (put-t-row g.F.Field.modulus (layered_matrix_of c.args.new.now) R.L c.args.at R.thinned R.least (g.T.Tableau.room_of c.args.self.now.tableau))
    (c.insert_column.ensures.edited R.L R.thinned.without_t R.least R.thinned.column R.edited))

pub insert_q_row-requires-clause-few : goal.insert_q_row-requires-clause-few
insert_q_row-requires-clause-few g c =
    let R = c.requires.putting in
    let now = c.insert_t_row.new.self in
    put-q-few g.F.Field.modulus (layered_matrix_of c.args.new.now) R.L c.args.at R.thinned R.least (g.T.Tableau.room_of now.tableau)
    (g.T.Tableau.state now.tableau) now.mates (c.insert_t_row.ensures.edited R.thinned.without_t R.thinned.without_q R.least R.thinned.t
    (put-t-row g.F.Field.modulus (layered_matrix_of c.args.new.now) R.L c.args.at R.thinned R.least (g.T.Tableau.room_of c.args.self.now.tableau))
    (c.insert_column.ensures.edited R.L R.thinned.without_t R.least R.thinned.column R.edited))
    column_limit (subst (λ (l : Layers). length l.q.rows ≤ column_limit) c.new.view_is c.is_matrix.ensures.few)

pub insert_q_row-requires-clause-count : goal.insert_q_row-requires-clause-count
insert_q_row-requires-clause-count g c =
    let R = c.requires.putting in
    let now = c.insert_t_row.new.self in
    put-q-count g.F.Field.modulus (layered_matrix_of c.args.new.now) R.L c.args.at R.thinned R.least (g.T.Tableau.room_of now.tableau)
    (g.T.Tableau.state now.tableau) now.mates (c.insert_t_row.ensures.edited R.thinned.without_t R.thinned.without_q R.least R.thinned.t
    (put-t-row g.F.Field.modulus (layered_matrix_of c.args.new.now) R.L c.args.at R.thinned R.least (g.T.Tableau.room_of c.args.self.now.tableau))
    (c.insert_column.ensures.edited R.L R.thinned.without_t R.least R.thinned.column R.edited)) (length c.args.items.now)
    (told-of c.args.at.q c.requires.items (λ e h. sym (length-map c.args.items.now g.F.Field.number) ∙ h.count))

pub insert_q_row-requires-clause-room : goal.insert_q_row-requires-clause-room
insert_q_row-requires-clause-room g c =
    let R = c.requires.putting in
    let K = layered_matrix_of c.args.new.now in
    let old = c.args.self.now in
    let between = c.insert_column.new.self in
    let now = c.insert_t_row.new.self in
    put-q-room g.F.Field.modulus K R.L c.args.at R.thinned R.least (g.T.Tableau.room_of now.tableau)
    (g.T.Tableau.state now.tableau) now.mates (c.insert_t_row.ensures.edited R.thinned.without_t R.thinned.without_q R.least R.thinned.t
    (put-t-row g.F.Field.modulus (layered_matrix_of c.args.new.now) R.L c.args.at R.thinned R.least (g.T.Tableau.room_of c.args.self.now.tableau))
    (c.insert_column.ensures.edited R.L R.thinned.without_t R.least R.thinned.column R.edited))
    (room-kept K.q_rows K.t_rows K.columns (g.T.Tableau.room_of between.tableau) (g.T.Tableau.room_of now.tableau) between.mates now.mates
    c.insert_t_row.ensures.room
    (room-kept K.q_rows K.t_rows K.columns (g.T.Tableau.room_of old.tableau) (g.T.Tableau.room_of between.tableau) old.mates between.mates
    c.insert_column.ensures.room c.requires.room))

pub returns-clause-edited : goal.returns-clause-edited
returns-clause-edited g c L least thinned E =
    c.insert_q_row.ensures.edited thinned.without_q (layered_matrix_of c.args.new.now) least thinned.q
    (told-of c.args.at.q c.requires.items (λ e h j jl. sym (h.items j jl))) (c.insert_t_row.ensures.edited thinned.without_t thinned.without_q least thinned.t
    (put-t-row g.F.Field.modulus (layered_matrix_of c.args.new.now) L c.args.at thinned least (g.T.Tableau.room_of c.args.self.now.tableau))
    (c.insert_column.ensures.edited L thinned.without_t least thinned.column E))
