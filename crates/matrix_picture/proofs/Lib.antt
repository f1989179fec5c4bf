mod Pieces
mod Listing
