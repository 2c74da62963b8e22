mod Results
mod Searches
